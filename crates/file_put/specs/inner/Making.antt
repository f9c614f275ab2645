-- What the private functions of writing hold.
-- Page: "Dalvik Executable format", "File layout".
use Rattle.file_put.specs.inner.Assembled.{Places}
use Rattle.file_put.specs.declared.assembling.Data.{Data}

-- the places of the items of the data
abbrev pub places_of : Data → Places
places_of d = record { lists = d.lists.items; codes = d.codes.items; texts = d.texts.items; arrays = d.arrays.items; datas = d.datas.items }
