use Rattle.std.proofs.Common.{◌≡◌, length, filter_map, subst, sym, ◌∙◌, zero-add}
use Rattle.std.specs.List.{range_with_len}
use Rattle.registry_machine.specs.Entries.{ticket_of}
use Rattle.registry_machine.specs.Machine.{start}
use Rattle.registry_machine.proofs.Tellings.{acquired_from, tickets_from}
use Rattle.registry_machine.proofs.Indices.{acquired_once, lower_ticket_first, acquired_in_order}
use Rattle.registry_machine.proofs.laws.tickets_count_acquires.Goals as goal

pub returns-clause-listed : goal.returns-clause-listed
returns-clause-listed g c l h x legal = subst (λ n. filter_map (ticket_of x) h ≡ range_with_len 0 n) (sym (acquired_from (start l) h x ∙ zero-add (length (filter_map (ticket_of x) h)))) (tickets_from l (start l) h x legal)

pub returns-clause-once : goal.returns-clause-once
returns-clause-once g c l h m n x k legal = acquired_once l h legal m n x k

pub returns-clause-ordered : goal.returns-clause-ordered
returns-clause-ordered g c l h m n x j k legal = lower_ticket_first l h legal m n x j k

pub returns-clause-rising : goal.returns-clause-rising
returns-clause-rising g c l h m n x y j k legal = acquired_in_order l h legal m n x y j k
