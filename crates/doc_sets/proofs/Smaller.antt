-- Which form takes fewer bytes.
use Rattle.std.proofs.Common.{◌≡◌, ℕ, ◌*◌, ◌<◌, ◌≤◌, true, false, List, length, nat_lt, sym, subst, arith}
use Rattle.std.proofs.lemmas.Bool.{ltb-true, ltb-false}
use Rattle.doc_sets.specs.Sets.{is_in, IsAscending}
use Rattle.doc_sets.specs.BitRows.{has_bit, numbers_of, Reaches}
use Rattle.doc_sets.specs.Forms.{IsShortList, IsShortRow}
use Rattle.doc_sets.specs.declared.TheConstants.{MAX_DOCS}
use Rattle.doc_sets.proofs.Bits.{numbers_of-same}

-- a list that is not larger than the least row
pub short_list : (xs : List ℕ) (reach count : ℕ) → ((words : ℕ) → Reaches words xs → reach ≤ words) → count ≡ length xs → nat_lt (2 * reach) count ≡ false → IsShortList xs
short_list xs reach count least counted p words reaches =
    let few : count ≤ 2 * reach = ltb-false (2 * reach) count p in
    let more : reach ≤ words = least words reaches in
    omega arith

-- a row that is smaller than the list of its numbers
pub short_row : (words xs : List ℕ) (reach count : ℕ) → length words ≤ 4096 → IsAscending xs → ((n : ℕ) → has_bit words n ≡ is_in xs n) → length words ≤ reach → count ≡ length xs → nat_lt (2 * reach) count ≡ true → IsShortRow words
short_row words xs reach count few rises same fits counted p =
    let listed : numbers_of words ≡ xs = numbers_of-same MAX_DOCS words xs (omega arith) rises same in
    let less : 2 * reach < count = ltb-true (2 * reach) count p in
    let P : List ℕ → Type 0 = λ ys. 2 * length words < length ys in
    subst P (sym listed) (omega arith)
