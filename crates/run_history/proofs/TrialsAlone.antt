-- Each trial breaks its premise, and keeps the others.
use Rattle.std.proofs.Common.{◌≡◌, ◌≢◌, ℕ, ◌<◌, List, [], ◌∷◌, ◌==◌, Some, None, Result, Ok, refl, sym, subst, ◌∙◌, inl, inr, arith, rules}
use Rattle.std.proofs.lemmas.Option.{same_Some, none-some}
use Rattle.doc_model.specs.Document.{Document}
use Rattle.search_model.specs.Answer.{Asked, answer}
use Rattle.search_model.specs.Live.{added, nothing}
use Rattle.search_model.specs.Reply.{accepted, no_memory, found}
use Rattle.registry_machine.specs.declared.entry.Entry.TheVariants.{Open, Update, Finish, Acquire}
use Rattle.registry_machine.proofs.Lists.{false_true}
use Rattle.run_laws.specs.Rows.{add, query, commit}
use Rattle.run_laws.specs.Trials.{one_warming, add_a, find_x, document_a, asked_x, row, added_at, committed_at, served, one_add, two_adds, one_query, add_commit_query, commits_in_turn}
use Rattle.run_laws.proofs.Worked.{shows}
use Rattle.run_history.specs.Tellings.{Wanted, an_answer}
use Rattle.run_history.specs.Agreement.{IsReplied, RepliesIdly}
use Rattle.run_history.specs.Trials.{Premise, rows, once, searchers, order, warmings, views, replies, released, read, Keeps, BreaksAlone, call, tells, begun, first_life, placed_idly, untold, told_but_one, later_end, turned_round, told_backwards, warmed_early, commits_told, early_lives, blind, blindly_served, two_lives, one_added, told_without_memory, unreleased, served_once}
use Rattle.run_history.proofs.Indexed.{each_from_0, IsPlacedOnce, acquired_by, views_by}
use Rattle.run_history.proofs.TrialParts.{adds_a, asks_x, same_docs, self_before, later_before, not_before, earlier_before, replied_by, pinned_once, pinned_two}

zero_one : ◌≡◌ {A = ℕ} 0 1 → ⊥
zero_one e = omega (arith, e)

two_one : ◌≡◌ {A = ℕ} 2 1 → ⊥
two_one e = omega (arith, e)

code_other : ◌≡◌ {A = ℕ} 500 0 → ⊥
code_other e = omega (arith, e)

not_zero : (n : ℕ) → 0 < n → Some n ≡ Some 0 → ⊥
not_zero n lt e = let same = same_Some n 0 e in omega (arith, same, lt)

empty_cons : (d : Document) (ds : List Document) → [] ≡ d ∷ ds → ⊥
empty_cons d ds e = grind arith

same_asked : (a : Asked) → ◌≡◌ {A = Result Wanted (List ℕ)} (Ok (an_answer asked_x)) (Ok (an_answer a)) → asked_x ≡ a
same_asked a e = cc

blind_reply : (a : Asked) → asked_x ≡ a → IsReplied read one_warming blind (served 3 2 0 []) 2 a
blind_reply a e = subst (IsReplied read one_warming blind (served 3 2 0 []) 2) e (inl (3, 1, (2, nothing), 1, [], refl, shows 1 3 query None (Some 2) (Some 0) (found asked_x (answer [] asked_x))))

unreleased_reply : (a : Asked) → asked_x ≡ a → IsReplied read one_warming unreleased (served 1 1 0 []) 1 a
unreleased_reply a e = subst (IsReplied read one_warming unreleased (served 1 1 0 []) 1) e (inl (0, 1, (0, nothing), 0, [], refl, shows 1 1 query None (Some 1) (Some 0) (found asked_x (answer [] asked_x))))

placed_idly_others : (other : Premise) → other ≢ rows → Keeps begun placed_idly (first_life 0 ∷ []) other
placed_idly_others rows differs = absurd (differs refl)
placed_idly_others once differs = record { begins = record { opened = record { entry = Open 1 (0, nothing) 1 0 []; at = refl; told = refl }; registered = record { entry = Finish 1 []; at = refl; told = refl } }; first = ((λ e. none-some 0 e), tt); placed = each_from_0 (IsPlacedOnce placed_idly) begun ((λ p n z. absurd (omega (arith, z))), ((λ p n z. absurd (false_true n)), tt)); froms = (refl, tt); acquired = acquired_by placed_idly (first_life 0 ∷ []) begun ((λ x a. absurd (none-some x a)), ((λ x a. absurd (none-some x a)), tt)) }
placed_idly_others searchers differs = record { generations = refl; each = (record { opening = record { entry = Open 1 (0, nothing) 1 0 []; at = refl; told = refl }; opened = refl; end = record { entry = Finish 1 []; at = refl; told = refl }; ended = refl; registered = ((λ e. refl), (λ e. refl)); acquired = refl }, tt) }
placed_idly_others order differs = ((self_before (first_life 0 ∷ []) _, tt), tt)
placed_idly_others warmings differs = (refl, tt)
placed_idly_others views differs = views_by read begun ((λ b u g s d e. same_docs _ b _ u _ g _ s _ d e), ((λ b u g s d e. absurd (grind arith)), tt))
placed_idly_others replies differs = (subst (RepliesIdly one_warming (row 1 1 add (Some 2) None None no_memory)) (sym (adds_a 1)) (shows 1 1 add (Some 2) None None no_memory), tt)
placed_idly_others released differs = λ b. refl

pub placed_idly_alone : BreaksAlone one_add begun placed_idly (first_life 0 ∷ []) rows
placed_idly_alone = record { legal = search rules; calls = refl; breaks = λ h. none-some 2 (sym h.0.place); keeps_others = placed_idly_others }

told_but_one_others : (other : Premise) → other ≢ once → Keeps untold told_but_one (first_life 0 ∷ []) other
told_but_one_others rows differs = ((Update 1 (1, added document_a), refl, inl (record { caller = 1; content = (1, added document_a); entry = refl; own = record { client = refl; line = refl }; wanted = adds_a 1; numbers = record { place = refl; generation = refl; ticket = refl } })), tt)
told_but_one_others once differs = absurd (differs refl)
told_but_one_others searchers differs = record { generations = refl; each = (record { opening = record { entry = Open 1 (0, nothing) 1 0 []; at = refl; told = refl }; opened = refl; end = record { entry = Finish 1 []; at = refl; told = refl }; ended = refl; registered = ((λ e. refl), (λ e. refl)); acquired = refl }, tt) }
told_but_one_others order differs = ((self_before (first_life 0 ∷ []) _, tt), tt)
told_but_one_others warmings differs = (refl, tt)
told_but_one_others views differs = views_by read untold ((λ b u g s d e. same_docs _ b _ u _ g _ s _ d e), ((λ b u g s d e. absurd (grind arith)), ((λ b u g s d e. absurd (grind arith)), ((λ b u g s d e. absurd (grind arith)), tt))))
told_but_one_others replies differs = (replied_by untold (record { call = call 1 add add_a; row = added_at 1 1 3 }) 3 (Update 1 (1, added document_a)) refl (shows 1 1 add (Some 3) None None accepted), tt)
told_but_one_others released differs = λ b. refl

pub told_but_one_alone : BreaksAlone one_add untold told_but_one (first_life 0 ∷ []) once
told_but_one_alone = record { legal = search rules; calls = refl; breaks = λ h. zero_one (h.placed 2 (Update 2 (9, nothing)) refl refl refl (omega arith)); keeps_others = told_but_one_others }

later_end_others : (other : Premise) → other ≢ searchers → Keeps begun [] later_end other
later_end_others rows differs = tt
later_end_others once differs = record { begins = record { opened = record { entry = Open 1 (0, nothing) 1 0 []; at = refl; told = refl }; registered = record { entry = Finish 1 []; at = refl; told = refl } }; first = tt; placed = each_from_0 (IsPlacedOnce []) begun ((λ p n z. absurd (omega (arith, z))), ((λ p n z. absurd (false_true n)), tt)); froms = (refl, tt); acquired = acquired_by [] later_end begun ((λ x a. absurd (none-some x a)), ((λ x a. absurd (none-some x a)), tt)) }
later_end_others searchers differs = absurd (differs refl)
later_end_others order differs = tt
later_end_others warmings differs = (refl, tt)
later_end_others views differs = views_by read begun ((λ b u g s d e. same_docs _ b _ u _ g _ s _ d e), ((λ b u g s d e. absurd (grind arith)), tt))
later_end_others replies differs = tt
later_end_others released differs = λ b. refl

pub later_end_alone : BreaksAlone [] begun [] later_end searchers
later_end_alone = record { legal = search rules; calls = refl; breaks = λ h. two_one h.each.0.ended; keeps_others = later_end_others }

told_backwards_others : (other : Premise) → other ≢ order → Keeps turned_round told_backwards (first_life 0 ∷ []) other
told_backwards_others rows differs = ((Update 1 (1, added document_a), refl, inl (record { caller = 1; content = (1, added document_a); entry = refl; own = record { client = refl; line = refl }; wanted = adds_a 1; numbers = record { place = refl; generation = refl; ticket = refl } })), ((Update 1 (2, added document_a), refl, inl (record { caller = 1; content = (2, added document_a); entry = refl; own = record { client = refl; line = refl }; wanted = adds_a 2; numbers = record { place = refl; generation = refl; ticket = refl } })), tt))
told_backwards_others once differs = record { begins = record { opened = record { entry = Open 1 (0, nothing) 1 0 []; at = refl; told = refl }; registered = record { entry = Finish 1 []; at = refl; told = refl } }; first = ((λ e. not_zero 3 (omega arith) e), ((λ e. not_zero 2 (omega arith) e), tt)); placed = each_from_0 (IsPlacedOnce told_backwards) turned_round ((λ p n z. absurd (omega (arith, z))), ((λ p n z. absurd (false_true n)), ((λ p n z. refl), ((λ p n z. refl), tt)))); froms = (refl, tt); acquired = acquired_by told_backwards (first_life 0 ∷ []) turned_round ((λ x a. absurd (none-some x a)), ((λ x a. absurd (none-some x a)), ((λ x a. absurd (none-some x a)), ((λ x a. absurd (none-some x a)), tt)))) }
told_backwards_others searchers differs = record { generations = refl; each = (record { opening = record { entry = Open 1 (0, nothing) 1 0 []; at = refl; told = refl }; opened = refl; end = record { entry = Finish 1 []; at = refl; told = refl }; ended = refl; registered = ((λ e. refl), (λ e. refl)); acquired = refl }, tt) }
told_backwards_others order differs = absurd (differs refl)
told_backwards_others warmings differs = (refl, tt)
told_backwards_others views differs = views_by read turned_round ((λ b u g s d e. same_docs _ b _ u _ g _ s _ d e), ((λ b u g s d e. absurd (grind arith)), ((λ b u g s d e. absurd (grind arith)), ((λ b u g s d e. absurd (grind arith)), tt))))
told_backwards_others replies differs = (replied_by turned_round (record { call = call 1 add add_a; row = added_at 1 1 3 }) 3 (Update 1 (1, added document_a)) refl (shows 1 1 add (Some 3) None None accepted), (replied_by turned_round (record { call = call 2 add add_a; row = added_at 1 2 2 }) 2 (Update 1 (2, added document_a)) refl (shows 1 2 add (Some 2) None None accepted), tt))
told_backwards_others released differs = λ b. refl

pub told_backwards_alone : BreaksAlone two_adds turned_round told_backwards (first_life 0 ∷ []) order
told_backwards_alone = record { legal = search rules; calls = refl; breaks = λ h. let k = h.0.1.0.told (inr (refl, omega arith)) 3 2 refl refl in omega (arith, k); keeps_others = told_backwards_others }

commits_told_others : (other : Premise) → other ≢ warmings → Keeps warmed_early commits_told early_lives other
commits_told_others rows differs = ((Open 1 (1, nothing) 2 1 [], refl, inr (inl (record { caller = 1; content = (1, nothing); generation = 2; slot = 1; docs = []; entry = refl; own = record { client = refl; line = refl }; wanted = refl; numbers = record { place = refl; generation = refl; ticket = refl } }))), ((Open 1 (2, nothing) 3 2 [], refl, inr (inl (record { caller = 1; content = (2, nothing); generation = 3; slot = 2; docs = []; entry = refl; own = record { client = refl; line = refl }; wanted = refl; numbers = record { place = refl; generation = refl; ticket = refl } }))), tt))
commits_told_others once differs = record { begins = record { opened = record { entry = Open 1 (0, nothing) 1 0 []; at = refl; told = refl }; registered = record { entry = Finish 1 []; at = refl; told = refl } }; first = ((λ e. not_zero 2 (omega arith) e), ((λ e. not_zero 8 (omega arith) e), tt)); placed = each_from_0 (IsPlacedOnce commits_told) warmed_early ((λ p n z. absurd (omega (arith, z))), ((λ p n z. absurd (false_true n)), ((λ p n z. refl), ((λ p n z. absurd (false_true p)), ((λ p n z. absurd (false_true p)), ((λ p n z. absurd (false_true p)), ((λ p n z. absurd (false_true p)), ((λ p n z. absurd (false_true n)), ((λ p n z. refl), ((λ p n z. absurd (false_true n)), tt)))))))))); froms = (refl, (((1, 0), refl, record { entry = Acquire 1 1 0; at = refl; told = refl }), (((1, 1), refl, record { entry = Acquire 1 1 1; at = refl; told = refl }), tt))); acquired = acquired_by commits_told early_lives warmed_early ((λ x a. absurd (none-some x a)), ((λ x a. absurd (none-some x a)), ((λ x a. absurd (none-some x a)), ((λ x a. refl), ((λ x a. absurd (none-some x a)), ((λ x a. refl), ((λ x a. absurd (none-some x a)), ((λ x a. absurd (none-some x a)), ((λ x a. absurd (none-some x a)), ((λ x a. absurd (none-some x a)), tt)))))))))) }
commits_told_others searchers differs = record { generations = refl; each = (record { opening = record { entry = Open 1 (0, nothing) 1 0 []; at = refl; told = refl }; opened = refl; end = record { entry = Finish 1 []; at = refl; told = refl }; ended = refl; registered = ((λ e. refl), (λ e. refl)); acquired = refl }, (record { opening = record { entry = Open 1 (1, nothing) 2 1 []; at = refl; told = refl }; opened = refl; end = record { entry = Finish 2 []; at = refl; told = refl }; ended = refl; registered = ((λ e. refl), (λ e. refl)); acquired = refl }, (record { opening = record { entry = Open 1 (2, nothing) 3 2 []; at = refl; told = refl }; opened = refl; end = record { entry = Finish 3 []; at = refl; told = refl }; ended = refl; registered = ((λ e. refl), (λ e. refl)); acquired = refl }, tt))) }
commits_told_others order differs = ((self_before early_lives (tells 1 commit [] (committed_at 1 1 2 2) (Some 2)), (earlier_before early_lives (tells 1 commit [] (committed_at 1 1 2 2) (Some 2)) (tells 2 commit [] (committed_at 1 2 4 3) (Some 8)) 2 8 refl refl (omega arith) (inl (omega arith), (inl (omega arith), (inr (λ e. grind arith), tt))), tt)), ((later_before early_lives (tells 2 commit [] (committed_at 1 2 4 3) (Some 8)) (tells 1 commit [] (committed_at 1 1 2 2) (Some 2)) (not_before (call 2 commit []) (call 1 commit []) (omega arith) (omega arith)), (self_before early_lives (tells 2 commit [] (committed_at 1 2 4 3) (Some 8)), tt)), tt))
commits_told_others warmings differs = absurd (differs refl)
commits_told_others views differs = views_by read warmed_early ((λ b u g s d e. same_docs _ b _ u _ g _ s _ d e), ((λ b u g s d e. absurd (grind arith)), ((λ b u g s d e. same_docs _ b _ u _ g _ s _ d e), ((λ b u g s d e. absurd (grind arith)), ((λ b u g s d e. absurd (grind arith)), ((λ b u g s d e. absurd (grind arith)), ((λ b u g s d e. absurd (grind arith)), ((λ b u g s d e. absurd (grind arith)), ((λ b u g s d e. same_docs _ b _ u _ g _ s _ d e), ((λ b u g s d e. absurd (grind arith)), tt))))))))))
commits_told_others replies differs = (replied_by warmed_early (record { call = call 1 commit []; row = committed_at 1 1 2 2 }) 2 (Open 1 (1, nothing) 2 1 []) refl (shows 1 1 commit (Some 2) (Some 2) None accepted), (replied_by warmed_early (record { call = call 2 commit []; row = committed_at 1 2 4 3 }) 8 (Open 1 (2, nothing) 3 2 []) refl (shows 1 2 commit (Some 4) (Some 3) None accepted), tt))
commits_told_others released differs = λ b. pinned_once (b == 1)

pub commits_told_alone : BreaksAlone commits_in_turn warmed_early commits_told early_lives warmings
commits_told_alone = record { legal = search rules; calls = refl; breaks = λ h. let k = h.1.1.0 in let e = same_Some 5 k.0 k.1 in let lt = k.2 in omega (arith, e, lt); keeps_others = commits_told_others }

blindly_served_others : (other : Premise) → other ≢ views → Keeps blind blindly_served two_lives other
blindly_served_others rows differs = ((Update 1 (1, added document_a), refl, inl (record { caller = 1; content = (1, added document_a); entry = refl; own = record { client = refl; line = refl }; wanted = adds_a 1; numbers = record { place = refl; generation = refl; ticket = refl } })), ((Open 1 (2, nothing) 2 1 [], refl, inr (inl (record { caller = 1; content = (2, nothing); generation = 2; slot = 1; docs = []; entry = refl; own = record { client = refl; line = refl }; wanted = refl; numbers = record { place = refl; generation = refl; ticket = refl } }))), ((Acquire 1 2 0, refl, inr (inr (inr (record { caller = 1; generation = 2; ticket = 0; asked = asked_x; entry = refl; client = refl; wanted = asks_x 3; numbers = record { place = refl; generation = refl; ticket = refl } })))), tt)))
blindly_served_others once differs = record { begins = record { opened = record { entry = Open 1 (0, nothing) 1 0 []; at = refl; told = refl }; registered = record { entry = Finish 1 []; at = refl; told = refl } }; first = ((λ e. not_zero 2 (omega arith) e), ((λ e. not_zero 3 (omega arith) e), ((λ e. not_zero 7 (omega arith) e), tt))); placed = each_from_0 (IsPlacedOnce blindly_served) blind ((λ p n z. absurd (omega (arith, z))), ((λ p n z. absurd (false_true n)), ((λ p n z. refl), ((λ p n z. refl), ((λ p n z. absurd (false_true p)), ((λ p n z. absurd (false_true p)), ((λ p n z. absurd (false_true n)), ((λ p n z. refl), ((λ p n z. absurd (false_true p)), tt))))))))); froms = (refl, (((1, 0), refl, record { entry = Acquire 1 1 0; at = refl; told = refl }), tt)); acquired = acquired_by blindly_served two_lives blind ((λ x a. absurd (none-some x a)), ((λ x a. absurd (none-some x a)), ((λ x a. absurd (none-some x a)), ((λ x a. absurd (none-some x a)), ((λ x a. refl), ((λ x a. absurd (none-some x a)), ((λ x a. absurd (none-some x a)), ((λ x a. refl), ((λ x a. absurd (none-some x a)), tt))))))))) }
blindly_served_others searchers differs = record { generations = refl; each = (record { opening = record { entry = Open 1 (0, nothing) 1 0 []; at = refl; told = refl }; opened = refl; end = record { entry = Finish 1 []; at = refl; told = refl }; ended = refl; registered = ((λ e. refl), (λ e. refl)); acquired = refl }, (record { opening = record { entry = Open 1 (2, nothing) 2 1 []; at = refl; told = refl }; opened = refl; end = record { entry = Finish 2 []; at = refl; told = refl }; ended = refl; registered = ((λ e. refl), (λ e. refl)); acquired = refl }, tt)) }
blindly_served_others order differs = ((self_before two_lives (tells 1 add add_a (added_at 1 1 2) (Some 2)), (earlier_before two_lives (tells 1 add add_a (added_at 1 1 2) (Some 2)) (tells 2 commit [] (committed_at 1 2 3 2) (Some 3)) 2 3 refl refl (omega arith) (inl (omega arith), (inr (λ e. none-some 2 e), tt)), (earlier_before two_lives (tells 1 add add_a (added_at 1 1 2) (Some 2)) (tells 3 query find_x (served 3 2 0 []) (Some 7)) 2 7 refl refl (omega arith) (inl (omega arith), (inl (omega arith), tt)), tt))), ((later_before two_lives (tells 2 commit [] (committed_at 1 2 3 2) (Some 3)) (tells 1 add add_a (added_at 1 1 2) (Some 2)) (not_before (call 2 commit []) (call 1 add add_a) (omega arith) (omega arith)), (self_before two_lives (tells 2 commit [] (committed_at 1 2 3 2) (Some 3)), (earlier_before two_lives (tells 2 commit [] (committed_at 1 2 3 2) (Some 3)) (tells 3 query find_x (served 3 2 0 []) (Some 7)) 3 7 refl refl (omega arith) (inl (omega arith), (inl (omega arith), tt)), tt))), ((later_before two_lives (tells 3 query find_x (served 3 2 0 []) (Some 7)) (tells 1 add add_a (added_at 1 1 2) (Some 2)) (not_before (call 3 query find_x) (call 1 add add_a) (omega arith) (omega arith)), (later_before two_lives (tells 3 query find_x (served 3 2 0 []) (Some 7)) (tells 2 commit [] (committed_at 1 2 3 2) (Some 3)) (not_before (call 3 query find_x) (call 2 commit []) (omega arith) (omega arith)), (self_before two_lives (tells 3 query find_x (served 3 2 0 []) (Some 7)), tt))), tt)))
blindly_served_others warmings differs = (refl, ((4, refl, omega arith, omega arith), tt))
blindly_served_others views differs = absurd (differs refl)
blindly_served_others replies differs = (replied_by blind (record { call = call 1 add add_a; row = added_at 1 1 2 }) 2 (Update 1 (1, added document_a)) refl (shows 1 1 add (Some 2) None None accepted), (replied_by blind (record { call = call 2 commit []; row = committed_at 1 2 3 2 }) 3 (Open 1 (2, nothing) 2 1 []) refl (shows 1 2 commit (Some 3) (Some 2) None accepted), (replied_by blind (record { call = call 3 query find_x; row = served 3 2 0 [] }) 7 (Acquire 1 2 0) refl (λ asked w. blind_reply asked (same_asked asked (sym (asks_x 3) ∙ w))), tt)))
blindly_served_others released differs = λ b. pinned_two (b == 1)

pub blindly_served_alone : BreaksAlone add_commit_query blind blindly_served two_lives views
blindly_served_alone = record { legal = search rules; calls = refl; breaks = λ h. let e = h 3 1 (2, nothing) 2 1 [] refl in empty_cons document_a [] e; keeps_others = blindly_served_others }

told_without_memory_others : (other : Premise) → other ≢ replies → Keeps one_added told_without_memory (first_life 0 ∷ []) other
told_without_memory_others rows differs = ((Update 1 (1, added document_a), refl, inl (record { caller = 1; content = (1, added document_a); entry = refl; own = record { client = refl; line = refl }; wanted = adds_a 1; numbers = record { place = refl; generation = refl; ticket = refl } })), tt)
told_without_memory_others once differs = record { begins = record { opened = record { entry = Open 1 (0, nothing) 1 0 []; at = refl; told = refl }; registered = record { entry = Finish 1 []; at = refl; told = refl } }; first = ((λ e. not_zero 2 (omega arith) e), tt); placed = each_from_0 (IsPlacedOnce told_without_memory) one_added ((λ p n z. absurd (omega (arith, z))), ((λ p n z. absurd (false_true n)), ((λ p n z. refl), tt))); froms = (refl, tt); acquired = acquired_by told_without_memory (first_life 0 ∷ []) one_added ((λ x a. absurd (none-some x a)), ((λ x a. absurd (none-some x a)), ((λ x a. absurd (none-some x a)), tt))) }
told_without_memory_others searchers differs = record { generations = refl; each = (record { opening = record { entry = Open 1 (0, nothing) 1 0 []; at = refl; told = refl }; opened = refl; end = record { entry = Finish 1 []; at = refl; told = refl }; ended = refl; registered = ((λ e. refl), (λ e. refl)); acquired = refl }, tt) }
told_without_memory_others order differs = ((self_before (first_life 0 ∷ []) _, tt), tt)
told_without_memory_others warmings differs = (refl, tt)
told_without_memory_others views differs = views_by read one_added ((λ b u g s d e. same_docs _ b _ u _ g _ s _ d e), ((λ b u g s d e. absurd (grind arith)), ((λ b u g s d e. absurd (grind arith)), tt)))
told_without_memory_others replies differs = absurd (differs refl)
told_without_memory_others released differs = λ b. refl

pub told_without_memory_alone : BreaksAlone one_add one_added told_without_memory (first_life 0 ∷ []) replies
told_without_memory_alone = record { legal = search rules; calls = refl; breaks = λ h. let k = (h.0 (Update 1 (1, added document_a)) refl).code in code_other k; keeps_others = told_without_memory_others }

served_once_others : (other : Premise) → other ≢ released → Keeps unreleased served_once (first_life 1 ∷ []) other
served_once_others rows differs = ((Acquire 1 1 0, refl, inr (inr (inr (record { caller = 1; generation = 1; ticket = 0; asked = asked_x; entry = refl; client = refl; wanted = asks_x 1; numbers = record { place = refl; generation = refl; ticket = refl } })))), tt)
served_once_others once differs = record { begins = record { opened = record { entry = Open 1 (0, nothing) 1 0 []; at = refl; told = refl }; registered = record { entry = Finish 1 []; at = refl; told = refl } }; first = ((λ e. not_zero 2 (omega arith) e), tt); placed = each_from_0 (IsPlacedOnce served_once) unreleased ((λ p n z. absurd (omega (arith, z))), ((λ p n z. absurd (false_true n)), ((λ p n z. refl), tt))); froms = (refl, tt); acquired = acquired_by served_once (first_life 1 ∷ []) unreleased ((λ x a. absurd (none-some x a)), ((λ x a. absurd (none-some x a)), ((λ x a. refl), tt))) }
served_once_others searchers differs = record { generations = refl; each = (record { opening = record { entry = Open 1 (0, nothing) 1 0 []; at = refl; told = refl }; opened = refl; end = record { entry = Finish 1 []; at = refl; told = refl }; ended = refl; registered = ((λ e. refl), (λ e. refl)); acquired = refl }, tt) }
served_once_others order differs = ((self_before (first_life 1 ∷ []) _, tt), tt)
served_once_others warmings differs = (refl, tt)
served_once_others views differs = views_by read unreleased ((λ b u g s d e. same_docs _ b _ u _ g _ s _ d e), ((λ b u g s d e. absurd (grind arith)), ((λ b u g s d e. absurd (grind arith)), tt)))
served_once_others replies differs = (replied_by unreleased (record { call = call 1 query find_x; row = served 1 1 0 [] }) 2 (Acquire 1 1 0) refl (λ asked w. unreleased_reply asked (same_asked asked (sym (asks_x 1) ∙ w))), tt)
served_once_others released differs = absurd (differs refl)

pub served_once_alone : BreaksAlone one_query unreleased served_once (first_life 1 ∷ []) released
served_once_alone = record { legal = search rules; calls = refl; breaks = λ h. none-some 1 (sym (h 1)); keeps_others = served_once_others }
