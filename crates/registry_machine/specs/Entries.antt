-- What an entry tells.
use Rattle.std.specs.Prelude.{ℕ, Bool, true, false, Option, Some, None, if◌then◌else◌, ◌==◌}
use Rattle.registry_machine.specs.declared.entry.Entry.{Entry}
use Rattle.registry_machine.specs.declared.entry.Entry.TheVariants.{Open, TooMany, GenerationsSpent, Update, Finish, Superseded, Acquire, NotYet, Release, Free}

-- the caller that it names
abbrev pub caller_of : {U D L : Type 0} → Entry U D L → Option ℕ
caller_of (Open c u g s docs) = Some c
caller_of (TooMany c u gs) = Some c
caller_of (GenerationsSpent c u) = Some c
caller_of (Update c u) = Some c
caller_of (Finish g l) = None
caller_of (Superseded g by l) = None
caller_of (Acquire c g k) = Some c
caller_of (NotYet c) = Some c
caller_of (Release c g l) = Some c
caller_of (Free g) = None

-- the content that its caller announced
abbrev pub content_of : {U D L : Type 0} → Entry U D L → Option U
content_of (Open c u g s docs) = Some u
content_of (TooMany c u gs) = Some u
content_of (GenerationsSpent c u) = Some u
content_of (Update c u) = Some u
content_of (Finish g l) = None
content_of (Superseded g by l) = None
content_of (Acquire c g k) = None
content_of (NotYet c) = None
content_of (Release c g l) = None
content_of (Free g) = None

-- whether it has a place in the journal: openings, refused ones, updates, registrations and supersedings have
abbrev pub has_place : {U D L : Type 0} → Entry U D L → Bool
has_place (Open c u g s docs) = true
has_place (TooMany c u gs) = true
has_place (GenerationsSpent c u) = true
has_place (Update c u) = true
has_place (Finish g l) = true
has_place (Superseded g by l) = true
has_place (Acquire c g k) = false
has_place (NotYet c) = false
has_place (Release c g l) = false
has_place (Free g) = false

-- the generation that it opens
abbrev pub opens : {U D L : Type 0} → Entry U D L → Option ℕ
opens (Open c u g s docs) = Some g
opens _ = None

-- the generation that it registers as current
abbrev pub registers : {U D L : Type 0} → Entry U D L → Option ℕ
registers (Finish g l) = Some g
registers _ = None

-- the generation whose warming it ends
abbrev pub ends : {U D L : Type 0} → Entry U D L → Option ℕ
ends (Finish g l) = Some g
ends (Superseded g by l) = Some g
ends _ = None

-- the generation that it acquires, and the ticket that it gets there
abbrev pub acquires : {U D L : Type 0} → Entry U D L → Option (ℕ × ℕ)
acquires (Acquire c g k) = Some (g, k)
acquires _ = None

-- the ticket that it gets of a generation
abbrev pub ticket_of : {U D L : Type 0} → ℕ → Entry U D L → Option ℕ
ticket_of g (Acquire c h k) = if h == g then Some k else None
ticket_of g _ = None

-- the generation that it frees
abbrev pub frees : {U D L : Type 0} → Entry U D L → Option ℕ
frees (Free g) = Some g
frees _ = None
