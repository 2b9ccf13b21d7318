-- What matching says of small documents and queries.
use Rattle.std.specs.Prelude.{◌≡◌, ℕ, List, [], ◌∷◌, Bool, true, false, not, codes}
use Rattle.std.specs.List.{list_any}
use Rattle.field_schema.specs.declared.key.Key.{Key}
use Rattle.field_schema.specs.declared.key.Key.TheVariants as key
use Rattle.query_tree.specs.declared.query.End.TheVariants as end
use Rattle.query_tree.specs.declared.query.Query.{Query}
use Rattle.query_tree.specs.declared.query.Query.TheViews as query
use Rattle.query_tree.specs.KeysOfDocs.{keys_in}
use Rattle.query_tree.specs.Matches.{matches, top}

-- a query with optional parts alone
abbrev pub some_of : List Query → Query
some_of parts = query.Bool [] parts []

-- a query with prohibited parts alone
abbrev pub none_of : List Query → Query
none_of parts = query.Bool [] [] parts

-- `*:*` matches each document
abbrev pub AllMatches : Type 0
AllMatches = (doc : List (List Key)) → top doc query.made-All ≡ true

-- `cat:y OR (-cat:x)` matches no document without `cat`
abbrev pub NestedNegativeAddsNothing : Type 0
NestedNegativeAddsNothing = (doc : List (List Key)) (cat : ℕ) (x y : Key) → keys_in doc cat ≡ [] →
    top doc (some_of (query.made-Term cat y ∷ none_of (query.made-Term cat x ∷ []) ∷ [])) ≡ false

-- `-cat:x` by itself matches each document without `cat`
abbrev pub TopNegativeMatches : Type 0
TopNegativeMatches = (doc : List (List Key)) (cat : ℕ) (x : Key) → keys_in doc cat ≡ [] →
    top doc (none_of (query.made-Term cat x ∷ [])) ≡ true

-- a query of prohibited parts alone matches each document that no part matches
abbrev pub TopNegativeMatchesOthers : Type 0
TopNegativeMatchesOthers = (doc : List (List Key)) (part : Query) (parts : List Query) →
    top doc (none_of (part ∷ parts)) ≡ not (list_any (matches doc) (part ∷ parts))

-- a Boolean query with neither required nor optional parts matches nothing where it stands inside another
abbrev pub NestedNegativeMatchesNothing : Type 0
NestedNegativeMatchesNothing = (doc : List (List Key)) (parts : List Query) → matches doc (none_of parts) ≡ false

-- a document whose first field has the texts "red car" and "blue bus"
abbrev pub two_texts : List (List Key)
two_texts = (key.Token (codes "red car") ∷ key.Token (codes "blue bus") ∷ []) ∷ []

-- a phrase matches within one of the texts
abbrev pub PhraseWithinText : Type 0
PhraseWithinText = top two_texts (query.made-Words 0 (codes "blue" ∷ codes "bus" ∷ [])) ≡ true

-- and not from one text into the next
abbrev pub PhraseAcrossTexts : Type 0
PhraseAcrossTexts = top two_texts (query.made-Words 0 (codes "car" ∷ codes "blue" ∷ [])) ≡ false

-- a phrase of no words matches nothing
abbrev pub EmptyPhraseMatchesNothing : Type 0
EmptyPhraseMatchesNothing = (doc : List (List Key)) (field : ℕ) → top doc (query.made-Words field []) ≡ false

-- a Boolean query of no parts matches nothing
abbrev pub EmptyBoolMatchesNothing : Type 0
EmptyBoolMatchesNothing = (doc : List (List Key)) → top doc (query.Bool [] [] []) ≡ false

-- `{k TO k}` matches nothing
abbrev pub EmptyRangeMatchesNothing : Type 0
EmptyRangeMatchesNothing = (doc : List (List Key)) (field : ℕ) (k : Key) →
    top doc (query.made-Range field (end.At k false) (end.At k false)) ≡ false

-- `[k TO k]` matches what the key itself matches
abbrev pub PointRangeIsTerm : Type 0
PointRangeIsTerm = (doc : List (List Key)) (field : ℕ) (k : Key) →
    top doc (query.made-Range field (end.At k true) (end.At k true)) ≡ top doc (query.made-Term field k)

-- a string or a token
abbrev pub has_text : Key → Bool
has_text (key.Str text) = true
has_text (key.Token text) = true
has_text k = false

-- the prefix of no characters matches each document with a string or a token in the field, and none by its numbers
abbrev pub EmptyPrefixMatchesTexts : Type 0
EmptyPrefixMatchesTexts = (doc : List (List Key)) (field : ℕ) → top doc (query.made-Prefix field []) ≡ list_any has_text (keys_in doc field)
