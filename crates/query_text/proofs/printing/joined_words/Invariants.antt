use Rattle.std.proofs.Common.{◌≡◌, ◌++◌, [], drop, string_bytes}
use Rattle.query_text.specs.Printing.{signed, spaced}
use Rattle.query_text.proofs.printing.joined_words.Given as goal

-- the text so far and that of the other words are the whole
abbrev pub invariant-loop-word : goal.invariant-loop-word
invariant-loop-word l = string_bytes l.text ++ signed l.begun [] (drop l.word-index l.words) ≡ spaced l.words
