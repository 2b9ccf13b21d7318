use Rattle.std.proofs.Common.{ap, sym, ◌∙◌, take}
use Rattle.std.proofs.lemmas.Option.{none-some}
use Rattle.registry_machine.specs.declared.entry.Entry.TheVariants.{Open}
use Rattle.registry_machine.specs.Legal.{state_of}
use Rattle.registry_machine.proofs.Runs.{allowed_at}
use Rattle.registry_machine.proofs.Indices.{pinned_slot, freed_once}
use Rattle.registry_machine.proofs.laws.slots_are_kept.Goals as goal

pub returns-clause-free : goal.returns-clause-free
returns-clause-free g c l h n x slot legal o = (allowed_at l h n (Open o.0 o.1 x slot o.2) legal o.3).free

pub returns-clause-pinned : goal.returns-clause-pinned
returns-clause-pinned g c l h m n x slot caller legal o lt pin = pinned_slot l h legal m n o.0 o.1 x slot caller o.2 o.3 lt pin

pub returns-clause-untaken : goal.returns-clause-untaken
returns-clause-untaken g c l h m n x y slot other caller legal o lt pin taken same =
    let s = state_of l (take n h) in
    none-some x (sym (allowed_at l h n (Open taken.0 taken.1 y other taken.2) legal taken.3).free ∙ (ap s.slots same ∙ pinned_slot l h legal m n o.0 o.1 x slot caller o.2 o.3 lt pin))

pub returns-clause-once : goal.returns-clause-once
returns-clause-once g c l h m n x legal = freed_once l h legal m n x
