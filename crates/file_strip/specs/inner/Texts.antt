-- Texts that stand in a file and are written for its kept rows.
-- Page: "Dalvik Executable format", "string_data_item".
use Rattle.std.specs.Prelude.{ℕ, List, take, drop, slice_index}
use Rattle.dex_base.specs.Mutf8.{PacksText}
use Rattle.file_layout.specs.inner.Sections.{Laying, never}
use Rattle.file_limits.specs.inner.Wide.{text_values, wide_text}
use Rattle.program_types.specs.Content.{Program}
use Rattle.tables_names.specs.Needed.{needed}
use Rattle.file_renumber.specs.inner.Marked.{Columns}

-- The texts of the kept ones of the first n strings are laid after `old`.
abbrev pub AreFirstTexts : Columns → Program → List ℕ → List ℕ → ℕ → List ℕ → Type 0
AreFirstTexts numbers p old out n places =
    Laying never PacksText 1 wide_text old out (take (slice_index numbers.strings n) (text_values (needed p))) (drop (slice_index numbers.strings n) (text_values (needed p)))
    (text_values (needed p)) places (slice_index numbers.strings n)
