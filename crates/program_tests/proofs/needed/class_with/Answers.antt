use Rattle.std.proofs.Common.{List, [], ◌∷◌, ◌++◌, map}
use Rattle.std.specs.List.{AllByRecursion}
use Rattle.dex_base.proofs.ListFacts.{all_append}
use Rattle.program_types.specs.Content.{Descriptor, Member}
use Rattle.program_types.specs.Mentions.{field_of_class}
use Rattle.program_types.specs.View as view
use Rattle.tables_names.specs.Closure.{HasShorty, method_of_class}
use Rattle.program_tests.proofs.needed.class_with.Goals as goal

-- a field needs no shorty
fields : (class : Descriptor) (all : List Member) → AllByRecursion HasShorty (map (field_of_class class) all)
fields class [] = tt
fields class (f ∷ fs) = (tt, fields class fs)

pub returns : goal.returns
returns c =
    let class = 76 ∷ 65 ∷ 59 ∷ [] in
    let statics = map view.member c.args.statics.now in
    let instances = map view.member c.args.instances.now in
    let directs = map (method_of_class class) (map view.method c.args.directs.now) in
    all_append HasShorty (map (field_of_class class) statics ++ map (field_of_class class) instances ++ directs) []
    (all_append HasShorty (map (field_of_class class) statics ++ map (field_of_class class) instances) directs
    (all_append HasShorty (map (field_of_class class) statics) (map (field_of_class class) instances) (fields class statics) (fields class instances))
    (c.requires class))
    tt
