-- Printed lists of parts, and parts in parentheses.
use Rattle.std.proofs.Common.{◌≡◌, ◌+◌, ◌≤◌, ◌++◌, ◌∷◌, [], ℕ, zero, suc, List, Bool, true, false, Option, None, Some, Result, length, refl, sym, subst, ◌∙◌, arith, codes, length-append}
use Rattle.std.proofs.lemmas.List.{append_assoc, append-nil}
use Rattle.std.proofs.lemmas.Bool.{lt-leb}
use Rattle.field_schema.specs.declared.field.Field.{Field}
use Rattle.query_tree.specs.declared.query.Query.{Query}
use Rattle.query_lexemes.specs.declared.fault.QueryFault.{QueryFault}
use Rattle.query_lexemes.specs.Letters.{is_blank, at_front, stands}
use Rattle.query_lexemes.specs.Lexemes.{lexemes}
use Rattle.query_lexemes.proofs.Shapes.{Shape, lay, Stops}
use Rattle.query_lexemes.proofs.Pieces.{own, IsBehind, nothing_skipped, space_skipped}
use Rattle.query_text.specs.declared.level.Level.{Level}
use Rattle.query_text.specs.declared.level.Clause.{Clause}
use Rattle.query_text.specs.declared.level.Sign.{Sign}
use Rattle.query_text.specs.declared.level.Sign.TheVariants.{Required, Prohibited}
use Rattle.query_text.specs.declared.level.Target.TheVariants.{Here}
use Rattle.query_text.specs.Reads.{Setting, read_from}
use Rattle.query_text.proofs.Steps.{Reads, step}
use Rattle.query_text.proofs.Leaves.{level, HasRoom, more}
use Rattle.query_text.proofs.Values.{required_step, prohibited_step}
use Rattle.query_text.proofs.Printed.{or_setting, Part}

-- ---- a space

space_turn : (s : Setting) (most end : ℕ) (l : Level) (os : List Level) (ss : List Shape) (at n : ℕ) → Stops is_blank ss
    → read_from s most l os (lexemes (suc n) end (lay at (own 32 ∷ ss))) ≡ read_from s most l os (lexemes (suc n) end (lay (at + 1) ss))
unfolding lexemes
space_turn s most end l os ss at n h = rw (space_skipped ss at h, nothing_skipped ss (at + 1) h) refl

space_reads : (s : Setting) (most end : ℕ) (l : Level) (os : List Level) (ss : List Shape) (r : Result Query QueryFault) → Stops is_blank ss
    → Reads s most end l os ss r → Reads s most end l os (own 32 ∷ ss) r
space_reads s most end l os ss r h reads at zero k = absurd (omega arith)
space_reads s most end l os ss r h reads at (suc n) k = space_turn s most end l os ss at n h ∙ reads (at + 1) (suc n) (omega arith)

-- ---- signs

-- the characters of a sign
abbrev pub sign_shapes : Option Sign → List Shape → List Shape
sign_shapes None rest = rest
sign_shapes (Some Required) rest = own 43 ∷ rest
sign_shapes (Some Prohibited) rest = own 45 ∷ rest

abbrev pub sign_text : Option Sign → List ℕ
sign_text None = []
sign_text (Some Required) = codes "+"
sign_text (Some Prohibited) = codes "-"

abbrev pub space_shapes : Bool → List Shape → List Shape
space_shapes true rest = own 32 ∷ rest
space_shapes false rest = rest

-- the clauses of queries with one sign
abbrev pub clauses : Option Sign → List Query → List Clause
clauses sign [] = []
clauses sign (q ∷ qs) = (record { before = None; sign = sign; query = q }) ∷ clauses sign qs

module _ (fields : List Field) (most d : ℕ) where
  -- each of the queries has a part
  abbrev pub AllParts : List Query → Type 0
  AllParts [] = Unit {0}
  AllParts (q ∷ qs) = Part fields most d q × AllParts qs

  abbrev pub signed_shapes : Bool → Option Sign → (qs : List Query) → AllParts qs → List Shape → List Shape
  signed_shapes begun sign [] ps rest = rest
  signed_shapes begun sign (q ∷ qs) ps rest = space_shapes begun (sign_shapes sign (ps.0.shapes (signed_shapes true sign qs ps.1 rest)))

  sign_blank : (sign : Option Sign) (ss : List Shape) → Stops is_blank ss → Stops is_blank (sign_shapes sign ss)
  sign_blank None ss h = h
  sign_blank (Some Required) ss h = λ at. refl
  sign_blank (Some Prohibited) ss h = λ at. refl

  sign_colon : (sign : Option Sign) (ss : List Shape) → ((at : ℕ) → at_front (stands 58) (lay at ss) ≡ false) → (at : ℕ) → at_front (stands 58) (lay at (sign_shapes sign ss)) ≡ false
  sign_colon None ss h = h
  sign_colon (Some Required) ss h = λ at. refl
  sign_colon (Some Prohibited) ss h = λ at. refl

  -- a space and a part go on no `*`
  space_behind : (ss : List Shape) → Stops is_blank ss → ((at : ℕ) → at_front (stands 58) (lay at ss) ≡ false) → IsBehind (own 32 ∷ ss)
  space_behind ss h k = record { colon = λ at. rw (space_skipped ss at h) (k (at + 1)); spoils = λ at. refl }

  pub signed_behind : (sign : Option Sign) (qs : List Query) (ps : AllParts qs) (rest : List Shape) → IsBehind rest → IsBehind (signed_shapes true sign qs ps rest)
  signed_behind sign [] ps rest h = h
  signed_behind sign (q ∷ qs) ps rest h =
      let inner : List Shape = ps.0.shapes (signed_shapes true sign qs ps.1 rest) in
      space_behind (sign_shapes sign inner)
      (sign_blank sign inner (ps.0.blank (signed_shapes true sign qs ps.1 rest)))
      (sign_colon sign inner (ps.0.colon (signed_shapes true sign qs ps.1 rest)))

  sign_reads : (end : ℕ) (df : Option ℕ) (named : Bool) (cs : List Clause) (os : List Level) (sign : Option Sign) (ss : List Shape) (r : Result Query QueryFault) → HasRoom most cs None
      → Reads (or_setting fields) most end (level df named cs sign Here) os ss r
      → Reads (or_setting fields) most end (level df named cs None Here) os (sign_shapes sign ss) r
  sign_reads end df named cs os None ss r room reads = reads
  sign_reads end df named cs os (Some Required) ss r room reads =
      step (or_setting fields) most end (level df named cs None Here) os (own 43 ∷ ss) ss r (level df named cs (Some Required) Here) os (omega arith)
      (required_step (or_setting fields) most end df named cs os ss room) reads
  sign_reads end df named cs os (Some Prohibited) ss r room reads =
      step (or_setting fields) most end (level df named cs None Here) os (own 45 ∷ ss) ss r (level df named cs (Some Prohibited) Here) os (omega arith)
      (prohibited_step (or_setting fields) most end df named cs os ss room) reads

  sign_room : (cs : List Clause) (sign : Option Sign) → HasRoom most cs None → HasRoom most cs sign
  sign_room cs None h = h
  sign_room cs (Some s) h = refl

  spaced_reads : (begun : Bool) (end : ℕ) (l : Level) (os : List Level) (ss : List Shape) (r : Result Query QueryFault) → Stops is_blank ss
      → Reads (or_setting fields) most end l os ss r → Reads (or_setting fields) most end l os (space_shapes begun ss) r
  spaced_reads true end l os ss r h reads = space_reads (or_setting fields) most end l os ss r h reads
  spaced_reads false end l os ss r h reads = reads

  -- where a part stands before the rest, the rest goes on no `*`
  abbrev pub BehindIf : List Query → List Shape → Type 0
  BehindIf [] rest = Unit {0}
  BehindIf (q ∷ qs) rest = IsBehind rest

  if_behind : (qs : List Query) (rest : List Shape) → IsBehind rest → BehindIf qs rest
  if_behind [] rest h = tt
  if_behind (q ∷ qs) rest h = h

  -- parts with a sign before each lead to their clauses
  pub signed_reads : (end : ℕ) (df : Option ℕ) (named : Bool) (os : List Level) (sign : Option Sign) (qs : List Query) (ps : AllParts qs) (begun : Bool) (cs : List Clause) (rest : List Shape)
      (r : Result Query QueryFault) → length os + d ≤ 64 → BehindIf qs rest → length cs + length qs ≤ most
      → Reads (or_setting fields) most end (level df named (cs ++ clauses sign qs) None Here) os rest r
      → Reads (or_setting fields) most end (level df named cs None Here) os (signed_shapes begun sign qs ps rest) r
  signed_reads end df named os sign [] ps begun cs rest r deep behind room reads =
      subst (λ (ds : List Clause). Reads (or_setting fields) most end (level df named ds None Here) os rest r) (append-nil cs) reads
  signed_reads end df named os sign (q ∷ qs) ps begun cs rest r deep behind room reads =
      let after : List Shape = signed_shapes true sign qs ps.1 rest in
      let here : HasRoom most cs None = lt-leb most (length cs) (omega arith) in
      let next : Reads (or_setting fields) most end (level df named (more cs sign q) None Here) os after r =
      signed_reads end df named os sign qs ps.1 true (more cs sign q) rest r deep (if_behind qs rest behind) (omega (arith, length-append cs ((record { before = None; sign = sign; query = q }) ∷ [])))
      (subst (λ (ds : List Clause). Reads (or_setting fields) most end (level df named ds None Here) os rest r)
      (sym (append_assoc cs ((record { before = None; sign = sign; query = q }) ∷ []) (clauses sign qs))) reads) in
      spaced_reads begun end (level df named cs None Here) os (sign_shapes sign (ps.0.shapes after)) r
      (sign_blank sign (ps.0.shapes after) (ps.0.blank after))
      (sign_reads end df named cs os sign (ps.0.shapes after) r here
      (ps.0.reads end df named cs sign os after r deep (signed_behind sign qs ps.1 rest behind) (sign_room cs sign here) next))
