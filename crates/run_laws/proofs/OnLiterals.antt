-- What an answer unfolds to compute what the parameters of a request read to.
use Rattle.std.specs.Prelude.{⊤}
use Rattle.std.specs.Str.{is_utf8, chars}
use Rattle.std.specs.Str.Lossy.{utf8_valid_len, utf8_lossy}
use lib.Utf8.{encode}
use Rattle.form_urlencoded.proofs.OnLiterals.{form_urlencoded_on_literals}
use Rattle.query_lexemes.specs.Letters.{letters_from, letters, run, past}
use Rattle.query_lexemes.specs.Lexemes.{operator_of, is_filter, prefix, plain_word, word, is_value, begins_other, star, quoted, run_text, quoted_bound, run_bound, bound, between, range_close, range_to, range_between, range_from, range, special, lexeme, lexemes}
use Rattle.query_lexemes.specs.Local.{with_number, with_item, local_items, local}
use Rattle.query_lexemes.specs.SortItems.{plain_from, plain_letters, behind_letters, direction, closed_item, directed_item, named_item, sort_item}
use Rattle.query_text.specs.Clauses.{marked, sorted, joined}
use Rattle.query_text.specs.Faults.{least, syntax, unknown_field, bad_number, bad_bound, unsupported, too_deep, too_many, told_with}
use Rattle.query_text.specs.Readings.{value_in}
use Rattle.query_text.specs.Reads.{value, after, read_from, query_of, letters_reading}
use Rattle.query_text.specs.Sorts.{sort_by, item_keys, sort_from, letters_sort}
use Rattle.request_form.specs.Requests.{request_of}

unfoldable pub requests_on_literals : ⊤
unfolding is_utf8 chars encode utf8_valid_len utf8_lossy form_urlencoded_on_literals request_of letters_from letters run past operator_of is_filter prefix plain_word word is_value begins_other star quoted run_text quoted_bound run_bound bound between range_close range_to range_between range_from range special lexeme lexemes with_number with_item local_items local plain_from plain_letters behind_letters direction closed_item directed_item named_item sort_item marked sorted joined least syntax unknown_field bad_number bad_bound unsupported too_deep too_many told_with value_in value after read_from query_of letters_reading sort_by item_keys sort_from letters_sort
requests_on_literals = tt
