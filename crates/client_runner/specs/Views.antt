-- The program's rows as plain rows.
use Rattle.std.specs.Option.{option_map}
use Rattle.run_laws.specs.Rows as plain
use Rattle.client_runner.specs.declared.rows.Verb.{Verb}
use Rattle.client_runner.specs.declared.rows.Verb.TheVariants.{Add, Delete, Query, Commit}
use Rattle.client_runner.specs.declared.rows.RequestRow.{RequestRow}
use Rattle.client_runner.specs.declared.rows.SearcherRow.{SearcherRow}

abbrev pub verb_view : Verb → plain.Verb
verb_view Add = plain.add
verb_view Delete = plain.delete
verb_view Query = plain.query
verb_view Commit = plain.commit

abbrev pub request_view : RequestRow → plain.RequestRow
request_view r = record {
  client = r.client;
  line = r.line;
  verb = verb_view r.verb;
  place = r.place;
  generation = r.generation;
  ticket = r.ticket;
  reply = r.reply;
  code = r.code;
  found = r.found;
  docs = r.docs;
  result = r.result;
  filters = r.filters;
  doc_hits = r.doc_hits;
}

abbrev pub searcher_view : SearcherRow → plain.SearcherRow
searcher_view s = record {
  generation = s.generation;
  opened = s.opened;
  ended = s.ended;
  registered = s.registered;
  acquired = s.acquired;
  from = option_map (λ p. (p.0, p.1)) s.from;
}
