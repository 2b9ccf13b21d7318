-- Positions gathered from the places of a key are those in the live documents.
use Rattle.std.proofs.Common.{◌≡◌, ℕ, ◌+◌, ◌<◌, true, false, cond, List, [], ◌∷◌, ◌++◌, length, take, get_or, map, filter, refl, sym, ap, ◌∙◌, append_assoc, arith, length-append}
use Rattle.std.specs.List.{enumerate_from, flat_map}
use Rattle.std.specs.FinSet.{contains}
use Rattle.std.proofs.lemmas.List.{append-nil, map-append, take_more}
use Rattle.std.proofs.lemmas.List.Concat.{flat_map-append}
use Rattle.std.proofs.lemmas.List.Elements.{filter-append}
use Rattle.field_schema.specs.declared.key.Key.{Key}
use Rattle.field_schema.specs.Keys.{key_eq}
use Rattle.field_schema.specs.Values.{values_at}
use Rattle.doc_model.specs.Document.{Document}
use Rattle.doc_sets.specs.Sets.{Numbers}
use Rattle.segment_postings.specs.declared.occurrence.Occurrence.{Occurrence}
use Rattle.segment_postings.specs.declared.occurrence.Place.{Place}
use Rattle.segment_postings.specs.declared.posting.Position.{Position}
use Rattle.segment_postings.specs.Positions.{position, positions_in, positions_among, told_position, positions_at}
use Rattle.segment_postings.specs.Postings.{places_in}
use Rattle.segment_postings.specs.Segments.{Part, of_doc, with_key, field_at, AreIndexes}
use Rattle.segment_postings.specs.Views.{all_docs}
use Rattle.segment_postings.proofs.PostingsGathered.{at, of_values}
use Rattle.segment_postings.proofs.ViewLaws.{enumerate-append}
use Rattle.segment_postings.proofs.ViewLoops.{docs_more}

-- ---- the positions of documents

module _ (live : Numbers) (base : ℕ) where
  abbrev told : Place → List Position
  told p = told_position live (base + p.doc) p

  dead : (n : ℕ) (qs : List (ℕ × ℕ)) → contains live (base + n) ≡ false → flat_map told (map (at n) qs) ≡ []
  dead n [] e = refl
  dead n (q ∷ qs) e = ap (λ b. cond b (position (base + n) q ∷ []) [] ++ flat_map told (map (at n) qs)) e ∙ dead n qs e

  alive : (n : ℕ) (qs : List (ℕ × ℕ)) → contains live (base + n) ≡ true → flat_map told (map (at n) qs) ≡ map (position (base + n)) qs
  alive n [] e = refl
  alive n (q ∷ qs) e = ap (λ b. cond b (position (base + n) q ∷ []) [] ++ flat_map told (map (at n) qs)) e ∙ ap (λ ps. position (base + n) q ∷ ps) (alive n qs e)

  module _ (field : ℕ) (k : Key) where
    abbrev of_entries : List (ℕ × Document) → List Position
    of_entries es = flat_map (positions_in field k) (filter (λ e. contains live e.0) es)

    entries-append : (xs ys : List (ℕ × Document)) → of_entries (xs ++ ys) ≡ of_entries xs ++ of_entries ys
    entries-append xs ys = ap (flat_map (positions_in field k)) (filter-append (λ e. contains live e.0) xs ys) ∙ flat_map-append (positions_in field k) (filter (λ e. contains live e.0) xs) (filter (λ e. contains live e.0) ys)

    of_one : (n : ℕ) (d : Document) → flat_map told (map (at n) (places_in k (values_at d.values field))) ≡ of_entries ((base + n, d) ∷ [])
    of_one n d =
        elim (contains live (base + n)) as (λ b. contains live (base + n) ≡ b → flat_map told (map (at n) (places_in k (values_at d.values field))) ≡ flat_map (positions_in field k) (cond b ((base + n, d) ∷ []) [])) [
          | true ↦ λ e. alive n (places_in k (values_at d.values field)) e ∙ sym (append-nil (map (position (base + n)) (places_in k (values_at d.values field))))
          | false ↦ λ e. dead n (places_in k (values_at d.values field)) e
        ] refl

    of_docs : (n : ℕ) (ds : List Document) → positions_at live base (map (λ o. o.place) (with_key k (flat_map (of_doc field) (enumerate_from n ds)))) ≡ of_entries (enumerate_from (base + n) ds)
    of_docs n [] = refl
    of_docs n (d ∷ ds) =
        let place = λ (o : Occurrence). o.place in
        let first : List Occurrence = with_key k (of_doc field (n, d)) in
        let rest : List Occurrence = with_key k (flat_map (of_doc field) (enumerate_from (n + 1) ds)) in
        let next : base + (n + 1) ≡ base + n + 1 = omega arith in
        ap (λ os. positions_at live base (map place os)) (filter-append (λ o. key_eq k o.key) (of_doc field (n, d)) (flat_map (of_doc field) (enumerate_from (n + 1) ds)))
        ∙ ap (positions_at live base) (map-append place first rest)
        ∙ flat_map-append told (map place first) (map place rest)
        ∙ (λ j. (ap (positions_at live base) (of_values k n (enumerate_from 0 (values_at d.values field))) ∙ of_one n d) j
        ++ (of_docs (n + 1) ds ∙ ap (λ m. of_entries (enumerate_from m ds)) next) j)
        ∙ sym (entries-append ((base + n, d) ∷ []) (enumerate_from (base + n + 1) ds))

pub part_positions : (ds : List Document) (fs : List (List Occurrence)) (field base : ℕ) (k : Key) (live : Numbers) → AreIndexes ds fs → positions_at live base (map (λ o. o.place) (with_key k (field_at fs field))) ≡ positions_among live base field k ds
part_positions ds fs field base k live is =
    let start : base + 0 ≡ base = omega arith in
    ap (λ os. positions_at live base (map (λ o. o.place) os)) ((is field).same k)
    ∙ of_docs live base field k 0 ds
    ∙ ap (λ m. positions_among live m field k ds) start

-- ---- the loop over places

pub position_more : (live : Numbers) (base : ℕ) (init found new : List Position) (places : List Place) (i : ℕ) (d : Place) → i < length places → new ≡ found ++ told_position live (base + ((get_or places i d).doc)) (get_or places i d) → found ≡ init ++ positions_at live base (take i places) → new ≡ init ++ positions_at live base (take (i + 1) places)
position_more live base init found new places i d h e so_far =
    let p : Place = get_or places i d in
    let told = λ (q : Place). told_position live (base + q.doc) q in
    let list : take (i + 1) places ≡ take i places ++ p ∷ [] = take_more places i d h in
    e
    ∙ ap (λ ps. ps ++ told p) so_far
    ∙ append_assoc init (positions_at live base (take i places)) (told p)
    ∙ ap (λ ps. init ++ ps) (
    ap (λ ps. positions_at live base (take i places) ++ ps) (sym (append-nil (told p)))
    ∙ sym (flat_map-append told (take i places) (p ∷ []))
    ∙ ap (positions_at live base) (sym list))

-- ---- the loop over parts

-- the positions in the documents of some parts behind others, and how many documents these have
pub record PartPositions (live : Numbers) (field : ℕ) (k : Key) (init : List Position) (ps : List Part) (base : ℕ) (found : List Position) : Type 0 where
  pub start : base ≡ length (all_docs ps)
  pub is : found ≡ init ++ positions_among live 0 field k (all_docs ps)

pub no_part_positions : (live : Numbers) (field : ℕ) (k : Key) (init : List Position) → PartPositions live field k init [] 0 init
no_part_positions live field k init = record { start = refl; is = sym (append-nil init) }

pub positions_of_part : (live : Numbers) (field : ℕ) (k : Key) (init : List Position) (ps : List Part) (q : Part) (base : ℕ) (found new : List Position) → PartPositions live field k init ps base found → new ≡ found ++ positions_among live base field k q.docs → PartPositions live field k init (ps ++ q ∷ []) (base + length q.docs) new
positions_of_part live field k init ps q base found new so_far e =
    let at_base : base ≡ 0 + length (all_docs ps) = omega (arith, so_far.start) in
    record {
      start = ap (λ n. n + length q.docs) so_far.start ∙ sym (length-append (all_docs ps) q.docs) ∙ ap length (sym (docs_more ps q));
      is =
          e
          ∙ (λ j. so_far.is j ++ positions_among live (at_base j) field k q.docs)
          ∙ append_assoc init (positions_among live 0 field k (all_docs ps)) (positions_among live (0 + length (all_docs ps)) field k q.docs)
          ∙ ap (λ xs. init ++ xs) (
          sym (entries-append live 0 field k (enumerate_from 0 (all_docs ps)) (enumerate_from (0 + length (all_docs ps)) q.docs))
          ∙ ap (λ es. flat_map (positions_in field k) (filter (λ e. contains live e.0) es)) (sym (enumerate-append 0 (all_docs ps) q.docs))
          ∙ ap (positions_among live 0 field k) (sym (docs_more ps q)));
    }
