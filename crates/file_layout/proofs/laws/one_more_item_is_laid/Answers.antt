use Rattle.std.proofs.Common.{refl}
use Rattle.file_layout.specs.inner.Sections.{IsItself, is_empty_list, wide_bytes}
use Rattle.file_layout.proofs.SectionLaws.{Laying-more, few_more}
use Rattle.file_layout.proofs.laws.one_more_item_is_laid.Goals as goal

pub returns : goal.returns
returns c = λ old out new done rest all v places place count some laying adds.
    Laying-more is_empty_list IsItself 4 wide_bytes old out new done rest all v places place count _ laying some adds (few_more out new v place adds) refl
