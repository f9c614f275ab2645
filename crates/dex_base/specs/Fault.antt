-- The faults: a number, a place, and the name and the sentence of each number.
use Rattle.std.specs.Prelude.{ℕ, List, ◌∷◌, map, ◌++◌, ◌==◌, if◌then◌else◌, codes}
use Rattle.std.specs.Fmt.{decimal}
use Rattle.dex_base.specs.declared.fault.Fault.{Fault}
use Rattle.dex_base.specs.declared.fault_names.TheConstants.{FAULTS}

-- out of memory
abbrev pub memory : Fault
memory = record { code = 255; place = 0 }

-- the name of a number that has none
abbrev pub unknown : List ℕ
unknown = codes "Unknown"

-- the sentence of a number that has none
abbrev pub no_fault : List ℕ
no_fault = codes "no fault has this number"

-- all numbers of the table
unfoldable pub numbers : List ℕ
numbers = map (λ row. row.number) FAULTS

-- all names of the table
unfoldable pub names : List (List ℕ)
names = map (λ row. row.name.now) FAULTS

-- all sentences of the table
unfoldable pub sentences : List (List ℕ)
sentences = map (λ row. row.says.now) FAULTS

-- the text of a column in the first row of a number
abbrev pub column_text : List ℕ → List (List ℕ) → List ℕ → ℕ → List ℕ
column_text (n ∷ ns) (text ∷ texts) none number = if number == n then text else column_text ns texts none number
column_text _ _ none number = none

-- the name of a fault
abbrev pub fault_name : ℕ → List ℕ
fault_name number = column_text numbers names unknown number

-- what is wrong at its place
abbrev pub fault_sentence : ℕ → List ℕ
fault_sentence number = column_text numbers sentences no_fault number

-- the fault as a text
abbrev pub fault_text : Fault → List ℕ
fault_text fault = decimal fault.code ++ codes " " ++ fault_name fault.code ++ codes " at " ++ decimal fault.place ++ codes ": " ++ fault_sentence fault.code
