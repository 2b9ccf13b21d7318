-- The messages of refused requests.
use Rattle.std.specs.Prelude.{ℕ, List, [], ◌∷◌, ◌++◌, codes, decimal}
use Rattle.doc_model.specs.declared.doc.DocFault.{DocFault}
use Rattle.doc_model.specs.declared.doc.DocFault.TheVariants as fault

-- a fault's name, then a space and what it names or counts
abbrev pub doc_message : DocFault → List ℕ
doc_message fault.NotObject = codes "NotObject"
doc_message fault.NoId = codes "NoId"
doc_message (fault.UnknownField name) = codes "UnknownField " ++ name
doc_message (fault.BadValue field) = codes "BadValue " ++ field
doc_message (fault.ManyValues field) = codes "ManyValues " ++ field
doc_message (fault.TooLong bytes) = codes "TooLong " ++ decimal bytes
doc_message fault.NoMemory = codes "NoMemory"
