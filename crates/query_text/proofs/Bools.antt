-- A Boolean query, in parentheses and as a whole text.
use Rattle.std.proofs.Common.{◌≡◌, ◌+◌, ◌<◌, ◌≤◌, ◌++◌, ◌∷◌, [], ℕ, suc, List, Bool, true, false, Option, None, Some, Result, Ok, length, map, refl, ap, sym, subst, ◌∙◌, arith, codes, length-append}
use Rattle.std.specs.Prelude.{◌||◌, ◌==◌, if◌then◌else◌}
use Rattle.std.proofs.lemmas.List.{append_assoc, append-nil}
use Rattle.std.proofs.lemmas.Bool.{lt-leb, lt-ltb, ne_eqb, or_right, true≢false}
use Rattle.std.proofs.lemmas.Str.{encode_ascii}
use Rattle.field_schema.specs.declared.field.Field.{Field}
use Rattle.query_tree.specs.declared.query.Query.{Query}
use Rattle.query_tree.specs.declared.query.Query.TheOpen as node
use Rattle.query_tree.specs.declared.query.Query.TheViews as parts
use Rattle.query_lexemes.specs.declared.fault.QueryFault.{QueryFault}
use Rattle.query_lexemes.specs.Letters.{at_front, stands}
use Rattle.query_lexemes.proofs.Shapes.{Shape, lay}
use Rattle.query_lexemes.proofs.Pieces.{own, IsBehind, nothing_skipped}
use Rattle.query_text.specs.declared.level.Level.{Level}
use Rattle.query_text.specs.declared.level.Clause.{Clause}
use Rattle.query_text.specs.declared.level.Sign.{Sign}
use Rattle.query_text.specs.declared.level.Sign.TheVariants.{Required, Prohibited}
use Rattle.query_text.specs.declared.level.Target.TheVariants.{Here}
use Rattle.query_text.specs.declared.op.Op.TheVariants as op
use Rattle.query_text.specs.Clauses.{joined}
use Rattle.query_text.specs.Printing.{signed, is_begun, parts_text, part_text, printed}
use Rattle.query_text.specs.PrintLaws.{PrintsBack, is_single}
use Rattle.query_text.proofs.Steps.{Reads, step}
use Rattle.query_text.proofs.Leaves.{level, more}
use Rattle.query_text.proofs.Values.{opening_step, closing_step}
use Rattle.query_text.proofs.Whole.{bytes_of, finished, whole_reads}
use Rattle.query_text.proofs.Parts.{IsFine, part_along, top_along}
use Rattle.query_text.proofs.Printed.{or_setting, Part}
use Rattle.query_text.proofs.Groups.{sign_shapes, sign_text, space_shapes, clauses, AllParts, signed_shapes, signed_behind, BehindIf, signed_reads}
use Rattle.query_text.proofs.Joined.{all_clauses, joined_all}
use Rattle.query_text.proofs.Tops.{nothing_behind}

-- ---- texts

space_bytes : (b : Bool) (ss : List Shape) → bytes_of (space_shapes b ss) ≡ (if b then codes " " else []) ++ bytes_of ss
space_bytes true ss = rw (encode_ascii 32 (omega arith)) refl
space_bytes false ss = refl

sign_bytes : (sign : Option Sign) (ss : List Shape) → bytes_of (sign_shapes sign ss) ≡ sign_text sign ++ bytes_of ss
sign_bytes None ss = refl
sign_bytes (Some Required) ss = rw (encode_ascii 43 (omega arith)) refl
sign_bytes (Some Prohibited) ss = rw (encode_ascii 45 (omega arith)) refl

space_fine : (b : Bool) (ss : List Shape) → IsFine ss → IsFine (space_shapes b ss)
space_fine true ss h = ((refl, h.0), h.1)
space_fine false ss h = h

sign_fine : (sign : Option Sign) (ss : List Shape) → IsFine ss → IsFine (sign_shapes sign ss)
sign_fine None ss h = h
sign_fine (Some Required) ss h = ((refl, h.0), h.1)
sign_fine (Some Prohibited) ss h = ((refl, h.0), h.1)

space_longer : (b : Bool) (ss : List Shape) → length ss ≤ length (space_shapes b ss)
space_longer true ss = omega arith
space_longer false ss = omega arith

sign_longer : (sign : Option Sign) (ss : List Shape) → length ss ≤ length (sign_shapes sign ss)
sign_longer None ss = omega arith
sign_longer (Some Required) ss = omega arith
sign_longer (Some Prohibited) ss = omega arith

five : (a b c d e : List ℕ) → a ++ (b ++ (c ++ (d ++ e))) ≡ a ++ b ++ c ++ d ++ e
five a b c d e = simp append_assoc

module _ (fields : List Field) (most d : ℕ) where
  signed_bytes : (sign : Option Sign) (qs : List Query) (ps : AllParts fields most d qs) (begun : Bool) (rest : List Shape)
      → bytes_of (signed_shapes fields most d begun sign qs ps rest) ≡ signed begun (sign_text sign) (map (part_text fields) qs) ++ bytes_of rest
  unfolding signed
  signed_bytes sign [] ps begun rest = refl
  signed_bytes sign (q ∷ qs) ps begun rest =
      let after : List Shape = signed_shapes fields most d true sign qs ps.1 rest in
      space_bytes begun (sign_shapes sign (ps.0.shapes after))
      ∙ ap (λ (bs : List ℕ). (if begun then codes " " else []) ++ bs)
      (sign_bytes sign (ps.0.shapes after)
      ∙ ap (λ (bs : List ℕ). sign_text sign ++ bs) (ps.0.text after ∙ ap (λ (bs : List ℕ). part_text fields q ++ bs) (signed_bytes sign qs ps.1 true rest)))
      ∙ five (if begun then codes " " else []) (sign_text sign) (part_text fields q) (signed true (sign_text sign) (map (part_text fields) qs)) (bytes_of rest)

  signed_fine : (sign : Option Sign) (qs : List Query) (ps : AllParts fields most d qs) (begun : Bool) (rest : List Shape)
      → IsFine rest → IsFine (signed_shapes fields most d begun sign qs ps rest)
  signed_fine sign [] ps begun rest h = h
  signed_fine sign (q ∷ qs) ps begun rest h =
      let after : List Shape = signed_shapes fields most d true sign qs ps.1 rest in
      space_fine begun (sign_shapes sign (ps.0.shapes after)) (sign_fine sign (ps.0.shapes after) (ps.0.fine after (signed_fine sign qs ps.1 true rest h)))

  signed_longer : (sign : Option Sign) (qs : List Query) (ps : AllParts fields most d qs) (begun : Bool) (rest : List Shape)
      → length rest ≤ length (signed_shapes fields most d begun sign qs ps rest)
  signed_longer sign [] ps begun rest = omega arith
  signed_longer sign (q ∷ qs) ps begun rest =
      let after : List Shape = signed_shapes fields most d true sign qs ps.1 rest in
      let a : length rest ≤ length after = signed_longer sign qs ps.1 true rest in
      let b : length after < length (ps.0.shapes after) = ps.0.longer after in
      let c : length (ps.0.shapes after) ≤ length (sign_shapes sign (ps.0.shapes after)) = sign_longer sign (ps.0.shapes after) in
      let e : length (sign_shapes sign (ps.0.shapes after)) ≤ length (space_shapes begun (sign_shapes sign (ps.0.shapes after))) = space_longer begun (sign_shapes sign (ps.0.shapes after)) in
      omega arith

length-clauses : (sign : Option Sign) (qs : List Query) → length (clauses sign qs) ≡ length qs
length-clauses sign [] = refl
length-clauses sign (q ∷ qs) = let e = length-clauses sign qs in omega arith

some : (c : Clause) (cs : List Clause) → (length (c ∷ cs) == 0) ≡ false
some c cs = ne_eqb (suc (length cs)) 0 (λ e. absurd (omega (arith, e)))

filled : (must should not_ : List Query) → is_single must should not_ ≡ false → (length (all_clauses must should not_) == 0) ≡ false
filled (q ∷ must) should not_ h = some (record { before = None; sign = Some Required; query = q }) (clauses (Some Required) must ++ (clauses None should ++ clauses (Some Prohibited) not_))
filled [] (q ∷ should) not_ h = some (record { before = None; sign = None; query = q }) (clauses None should ++ clauses (Some Prohibited) not_)
filled [] [] (q ∷ not_) h = some (record { before = None; sign = Some Prohibited; query = q }) (clauses (Some Prohibited) not_)
filled [] [] [] h = absurd (true≢false h)

abbrev inside_of : (fields : List Field) (most d : ℕ) (must should not_ : List Query) → AllParts fields most d must → AllParts fields most d should → AllParts fields most d not_ → List Shape → List Shape
inside_of fields most d must should not_ pm ps pn rest =
    signed_shapes fields most d false (Some Required) must pm
    (signed_shapes fields most d (is_begun (map (part_text fields) must)) None should ps
    (signed_shapes fields most d (is_begun (map (part_text fields) must) || is_begun (map (part_text fields) should)) (Some Prohibited) not_ pn rest))

-- what each list of parts begins with is no `{`
mark_in : (fields : List Field) (most d : ℕ) (must should not_ : List Query) (pm : AllParts fields most d must) (ps : AllParts fields most d should) (pn : AllParts fields most d not_) (at : ℕ)
    → at_front (stands 123) (lay at (inside_of fields most d must should not_ pm ps pn [])) ≡ false
mark_in fields most d (q ∷ must) should not_ pm ps pn at = refl
mark_in fields most d [] (q ∷ should) not_ pm ps pn at = ps.0.mark _ at
mark_in fields most d [] [] (q ∷ not_) pm ps pn at = refl
mark_in fields most d [] [] [] pm ps pn at = refl

module _ (fields : List Field) (most d : ℕ) (must should not_ : List Query) (pm : AllParts fields most d must) (ps : AllParts fields most d should) (pn : AllParts fields most d not_) where
  abbrev second : Bool
  second = is_begun (map (part_text fields) must)

  abbrev third : Bool
  third = is_begun (map (part_text fields) must) || is_begun (map (part_text fields) should)

  abbrev not_shapes : List Shape → List Shape
  not_shapes rest = signed_shapes fields most d third (Some Prohibited) not_ pn rest

  abbrev should_shapes : List Shape → List Shape
  should_shapes rest = signed_shapes fields most d second None should ps (not_shapes rest)

  abbrev pub inside_shapes : List Shape → List Shape
  inside_shapes rest = signed_shapes fields most d false (Some Required) must pm (should_shapes rest)

  abbrev inside_text : List ℕ
  inside_text = parts_text (map (part_text fields) must) (map (part_text fields) should) (map (part_text fields) not_)

  inside_bytes : (rest : List Shape) → bytes_of (inside_shapes rest) ≡ inside_text ++ bytes_of rest
  unfolding parts_text
  inside_bytes rest =
      rw (
        signed_bytes fields most d (Some Required) must pm false (should_shapes rest),
        signed_bytes fields most d None should ps second (not_shapes rest),
        signed_bytes fields most d (Some Prohibited) not_ pn third rest,
      )
      (simp append_assoc)

  inside_fine : (rest : List Shape) → IsFine rest → IsFine (inside_shapes rest)
  inside_fine rest h =
      signed_fine fields most d (Some Required) must pm false (should_shapes rest)
      (signed_fine fields most d None should ps second (not_shapes rest) (signed_fine fields most d (Some Prohibited) not_ pn third rest h))

  inside_longer : (rest : List Shape) → length rest ≤ length (inside_shapes rest)
  inside_longer rest =
      let a : length rest ≤ length (not_shapes rest) = signed_longer fields most d (Some Prohibited) not_ pn third rest in
      let b : length (not_shapes rest) ≤ length (should_shapes rest) = signed_longer fields most d None should ps second (not_shapes rest) in
      let c : length (should_shapes rest) ≤ length (inside_shapes rest) = signed_longer fields most d (Some Required) must pm false (should_shapes rest) in
      omega arith

  second_is : (q : Query) (qs : List Query) → must ≡ q ∷ qs → second ≡ true
  second_is q qs e = subst (λ (ms : List Query). is_begun (map (part_text fields) ms) ≡ true) (sym e) (lt-ltb 0 (suc (length (map (part_text fields) qs))) (omega arith))

  third_is : (q : Query) (qs : List Query) → should ≡ q ∷ qs → third ≡ true
  third_is q qs e =
      or_right second (is_begun (map (part_text fields) should))
      (subst (λ (ms : List Query). is_begun (map (part_text fields) ms) ≡ true) (sym e) (lt-ltb 0 (suc (length (map (part_text fields) qs))) (omega arith)))

  third_from : second ≡ true → third ≡ true
  third_from h = rw h refl

  begun_behind : (b : Bool) (sign : Option Sign) (qs : List Query) (pqs : AllParts fields most d qs) (rest : List Shape) → b ≡ true → IsBehind rest
      → IsBehind (signed_shapes fields most d b sign qs pqs rest)
  begun_behind true sign qs pqs rest e h = signed_behind fields most d sign qs pqs rest h
  begun_behind false sign qs pqs rest e h = absurd (true≢false (sym e))

  behind_if : (qs : List Query) (rest : List Shape) → ((q : Query) (ps : List Query) → qs ≡ q ∷ ps → IsBehind rest) → BehindIf fields most d qs rest
  behind_if [] rest h = tt
  behind_if (q ∷ qs) rest h = h q qs refl

  -- what stands in the parentheses leads to the clauses of all parts
  inside_reads : (end : ℕ) (df : Option ℕ) (named : Bool) (os : List Level) (rest : List Shape) (r : Result Query QueryFault) → length os + d ≤ 64 → IsBehind rest
      → length must + length should + length not_ ≤ most
      → Reads (or_setting fields) most end (level df named (all_clauses must should not_) None Here) os rest r
      → Reads (or_setting fields) most end (level df named [] None Here) os (inside_shapes rest) r
  inside_reads end df named os rest r deep behind room reads =
      let cm : List Clause = clauses (Some Required) must in
      let co : List Clause = clauses None should in
      let last : Reads (or_setting fields) most end (level df named (cm ++ co) None Here) os (not_shapes rest) r =
      signed_reads fields most d end df named os (Some Prohibited) not_ pn third (cm ++ co) rest r deep
      (behind_if not_ rest (λ q qs e. behind))
      (omega (arith, length-append cm co, length-clauses (Some Required) must, length-clauses None should))
      (subst (λ (ds : List Clause). Reads (or_setting fields) most end (level df named ds None Here) os rest r)
      (sym (append_assoc cm co (clauses (Some Prohibited) not_))) reads) in
      let middle : Reads (or_setting fields) most end (level df named cm None Here) os (should_shapes rest) r =
      signed_reads fields most d end df named os None should ps second cm (not_shapes rest) r deep
      (behind_if should (not_shapes rest) (λ q qs e. begun_behind third (Some Prohibited) not_ pn rest (third_is q qs e) behind))
      (omega (arith, length-clauses (Some Required) must))
      last in
      signed_reads fields most d end df named os (Some Required) must pm false [] (should_shapes rest) r deep
      (behind_if must (should_shapes rest)
      (λ q qs e. begun_behind second None should ps (not_shapes rest) (second_is q qs e) (begun_behind third (Some Prohibited) not_ pn rest (third_from (second_is q qs e)) behind)))
      (omega arith)
      middle

  -- ---- in parentheses

  bool_prints : part_text fields (parts.Bool must should not_) ≡ codes "(" ++ inside_text ++ codes ")"
  bool_prints = part_along fields (parts.Bool must should not_) (node.Bool must should not_) (parts.outs-Bool must should not_)

  bool_text : (rest : List Shape) → bytes_of (own 40 ∷ inside_shapes (own 41 ∷ rest)) ≡ part_text fields (parts.Bool must should not_) ++ bytes_of rest
  bool_text rest =
      rw (bool_prints, encode_ascii 40 (omega arith), inside_bytes (own 41 ∷ rest), encode_ascii 41 (omega arith))
      (ap (λ (bs : List ℕ). 40 ∷ bs) (sym (append_assoc inside_text (41 ∷ []) (bytes_of rest))))

  closing_behind : (rest : List Shape) → IsBehind (own 41 ∷ rest)
  closing_behind rest = record { colon = λ at. rw (nothing_skipped (own 41 ∷ rest) at (λ at. refl)) refl; spoils = λ at. refl }

  pub part_bool : is_single must should not_ ≡ false → length must + length should + length not_ ≤ most → Part fields most (suc d) (parts.Bool must should not_)
  part_bool several room = record {
    shapes = λ rest. own 40 ∷ inside_shapes (own 41 ∷ rest);
    text = bool_text;
    fine = λ rest h. let r : IsFine (inside_shapes (own 41 ∷ rest)) = inside_fine (own 41 ∷ rest) ((refl, h.0), h.1) in ((refl, r.0), r.1);
    longer = λ rest. let e : length (own 41 ∷ rest) ≤ length (inside_shapes (own 41 ∷ rest)) = inside_longer (own 41 ∷ rest) in omega arith;
    blank = λ rest at. refl;
    colon = λ rest at. refl;
    mark = λ rest at. refl;
    reads = λ end df own_field cs sign os rest r deep behind begins reads.
        step (or_setting fields) most end (level df own_field cs sign Here) os (own 40 ∷ inside_shapes (own 41 ∷ rest)) (inside_shapes (own 41 ∷ rest)) r
        (level df own_field [] None Here) (level df own_field cs sign Here ∷ os) (omega arith)
        (opening_step (or_setting fields) most end df own_field cs sign os (inside_shapes (own 41 ∷ rest)) begins (lt-leb 64 (length os) (omega arith)))
        (inside_reads end df own_field (level df own_field cs sign Here ∷ os) (own 41 ∷ rest) r (omega arith) (closing_behind rest) room
        (step (or_setting fields) most end (level df own_field (all_clauses must should not_) None Here) (level df own_field cs sign Here ∷ os) (own 41 ∷ rest) rest r
        (level df own_field (more cs sign (joined op.Or (all_clauses must should not_))) None Here) os (omega arith)
        (closing_step (or_setting fields) most end df own_field cs sign os (all_clauses must should not_) rest (filled must should not_ several))
        (subst (λ (q : Query). Reads (or_setting fields) most end (level df own_field (more cs sign q) None Here) os rest r) (sym (joined_all must should not_ several)) reads)));
  }

  -- ---- a whole text

  first_mark : (at : ℕ) → at_front (stands 123) (lay at (inside_shapes [])) ≡ false
  first_mark at = mark_in fields most d must should not_ pm ps pn at

  pub top_bool : d ≤ 64 → length must + length should + length not_ ≤ most → joined op.Or (all_clauses must should not_) ≡ parts.Bool must should not_
      → PrintsBack fields most (parts.Bool must should not_)
  top_bool deep room all df =
      let text : printed fields (parts.Bool must should not_) ≡ bytes_of (inside_shapes []) =
      top_along fields (parts.Bool must should not_) (node.Bool must should not_) (parts.outs-Bool must should not_) ∙ sym (inside_bytes [] ∙ append-nil inside_text) in
      let fine : IsFine (inside_shapes []) = inside_fine [] (tt, refl) in
      let end : ℕ = length (bytes_of (inside_shapes [])) in
      rw text (whole_reads fields op.Or most df (inside_shapes []) (parts.Bool must should not_) fine.0 fine.1 first_mark
      (inside_reads end df false [] [] (Ok (parts.Bool must should not_)) (omega arith) nothing_behind room
      (subst (λ (q : Query). Reads (or_setting fields) most end (level df false (all_clauses must should not_) None Here) [] [] (Ok q)) all
      (finished (or_setting fields) most end df false (all_clauses must should not_)))))
