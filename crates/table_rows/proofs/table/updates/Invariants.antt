use Rattle.std.proofs.Common.{◌≡◌, ◌+◌}
use Rattle.searcher_table.specs.Registrars.{places_of, IsSameRegistrar}
use Rattle.table_rows.specs.TableTrials.{IsReady}
use Rattle.table_rows.proofs.table.updates.Given as goal

abbrev pub invariant-loop-content : goal.invariant-loop-content
invariant-loop-content l = record {
  ready : IsReady l.registrar l.pass;
  same : IsSameRegistrar l.initial.registrar l.registrar;
  places : places_of l.registrar ≡ places_of l.initial.registrar + l.content;
}
