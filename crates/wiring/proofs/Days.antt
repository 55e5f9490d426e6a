-- Whatever a group prints that is wired by the protocol is the day's sheet. Assumes nothing.
use mathlib.Core.Bool.{true, false}
use mathlib.Core.Path.{◌≡◌, refl, sym, ap, ap₂, subst, ◌∙◌}
use mathlib.Core.List.{List, [], ◌∷◌, ◌++◌}
use Prim.Native.Nat.{ℕ, zero, suc, ◌+◌, ◌-◌, ◌≤◌}
use native.Mathlib.Omega.{arith}
use borrow.Author.Tests.{eq-eqb, le-leb}
use lib.Dec.{ltb, leb, eqb}
use lib.ListN.{length}
use Rattle.lists.specs.Choice.{choose}
use Rattle.lists.proofs.Cases.{tested, chosen, other, on, clash}
use Rattle.roles.specs.declared.Verb.{Verb}
use Rattle.server.specs.declared.Server.{Server}
use Rattle.lines.specs.Lines.{line, refused_word}
use Rattle.group.specs.declared.Table.{Table}
use Rattle.group.specs.declared.State.{State}
use Rattle.group.specs.Table.{empty, is_table, add_refusal, added, fresh_refusal, fresh}
use Rattle.group.specs.Frame.{advanced}
use Rattle.group.specs.Outcome.{channel_in}
use Rattle.group.specs.Advance.{advanced_by, lines_by}
use Rattle.group.specs.Verbs.{known, verb_outcome, verb_refusal, did}
use Rattle.group.specs.Calls.{call_channel}
use Rattle.group.proofs.Made.{to-table, table_empty, same-servers, table-opened}
use Rattle.day.specs.Read.{DayLine, wrong, period, server, entry, end, line_read}
use Rattle.day.specs.Day as day
use Rattle.day.specs.Day.{Day, atServers, atEntries, atClose, Effect, stop, go, last_line, effect_of, line_effect, add_effect, entry_effect, end_effect, call_effect, opening}
use Rattle.day.specs.Sheet.{header, input_refusal, sheet_from, sheet}
use Rattle.reached.proofs.Sound.{Sound, sound-advanced}
use Rattle.reached.proofs.Made.{sound-fresh}
use Rattle.reached.proofs.Reached.{sound-by, sound-call}
use Rattle.wiring.specs.Heard.{Group, Heard}
use Rattle.wiring.specs.Group as group
use Rattle.wiring.specs.Group.{new_group, framed, lines_each, knows, moved, MustHear}
use Rattle.wiring.specs.Same.{group_of, call_of}
use Rattle.wiring.specs.Days.{Plays, stays, plays, stops_in, stops_beyond, line_stops, entry_prints, closed, Prints, unended, faults, stops, early, enters, ends_early, ends, is_entry, AddsAll, none, next, OneSheetOfADay}
use Rattle.wiring.proofs.Frames.{framed_is, frame-lines}
use Rattle.wiring.proofs.Entries.{knows-is, entry-number, entry-lines}
use Rattle.wiring.proofs.Moves.{moved-is, exact, new-group}
use Rattle.wiring.proofs.Adding.{few-added}

-- ---- frames

played : (n : ℕ) (g d : Group) (w : List ℕ) (c : State) → Sound c → g ≡ group_of c → Plays n g d w → (d ≡ group_of (advanced_by n c)) × (w ≡ lines_by n c)
unfolding advanced_by lines_by
played zero g d w c sound e stays = (e, refl)
played (suc n) g d w c sound e (plays {w = u} hear right more) =
    let rightly = subst (λ (x : Group). (j : ℕ) → MustHear x j → Heard x j (hear j)) e right in
    let r = played n (framed hear g) d u (advanced c) (sound-advanced c sound) (ap (framed hear) e ∙ framed_is c sound hear rightly) more in
    (r.0, ap₂ (λ (x y : List ℕ). x ++ y) (ap (λ (x : Group). lines_each hear 0 x.members) e ∙ frame-lines c sound hear rightly) r.1)

-- ---- one line

pub sheet-stop : (k n : ℕ) (d : Day) (l : List ℕ) (ls : List (List ℕ)) → effect_of k d (line_read l) ≡ stop n → sheet_from k d (l ∷ ls) ≡ input_refusal k n
unfolding sheet_from
sheet-stop k n d l ls e = rw (e, sheet_from)

pub sheet-go : (k : ℕ) (d f : Day) (w l : List ℕ) (ls : List (List ℕ)) → effect_of k d (line_read l) ≡ go w f → sheet_from k d (l ∷ ls) ≡ w ++ sheet_from (suc k) f ls
unfolding sheet_from
sheet-go k d f w l ls e = rw (e, sheet_from)

pub effect_early : (k : ℕ) (d : Day) (l : DayLine) → leb k last_line ≡ true → effect_of k d l ≡ line_effect d l
unfolding effect_of
effect_early k d l e = rw (e, effect_of)

pub effect_late : (k : ℕ) (d : Day) (l : DayLine) → leb k last_line ≡ false → effect_of k d l ≡ day.beyond l
unfolding effect_of
effect_late k d l e = rw (e, effect_of)

pub beyond-is : (l : DayLine) → day.beyond l ≡ stop (stops_beyond l)
unfolding stops_beyond
beyond-is (wrong n) = refl
beyond-is (period p) = refl
beyond-is (server i p) = refl
beyond-is (entry t v a b) = refl
beyond-is (end t) = refl

entry-unknown : (c : State) (t : ℕ) (v : Verb) (a b : ℕ) → known c v a b ≡ false → entry_effect c t v a b ≡ stop 8
unfolding entry_effect
entry-unknown c t v a b e = rw (e, entry_effect)

stops_in_lem : (c : State) (l : DayLine) (n : ℕ) → stops_in (group_of c) l ≡ suc n → line_effect (day.on atEntries c) l ≡ stop (suc n)
unfolding stops_in
stops_in_lem c (wrong m) n e = ap stop e
stops_in_lem c (period p) n e = ap stop e
stops_in_lem c (server i p) n e = ap stop e
stops_in_lem c (entry t v a b) n e =
    on (tested (known c v a b))
    (λ q. absurd (let z : ◌≡◌ {A = ℕ} 0 (suc n) = sym (chosen 8 (knows-is c a b v ∙ q)) ∙ e in omega (arith, z)))
    (λ q. entry-unknown c t v a b q ∙ ap stop (sym (other 0 (knows-is c a b v ∙ q)) ∙ e))
stops_in_lem c (end t) n e = absurd (omega (arith, e))

line-stops : (k : ℕ) (c : State) (l : DayLine) (n : ℕ) → line_stops k (group_of c) l ≡ suc n → effect_of k (day.on atEntries c) l ≡ stop (suc n)
unfolding line_stops
line-stops k c l n e =
    on (tested (leb k last_line))
    (λ q. effect_early k (day.on atEntries c) l q ∙ stops_in_lem c l n (sym (chosen (stops_beyond l) q) ∙ e))
    (λ q. effect_late k (day.on atEntries c) l q ∙ beyond-is l ∙ ap stop (sym (other (stops_in (group_of c) l) q) ∙ e))

-- a line that does not stop the sheet is within the limit, and its identities are known
goes-entry : (k : ℕ) (c : State) (t : ℕ) (v : Verb) (a b : ℕ) → line_stops k (group_of c) (entry t v a b) ≡ 0 → (leb k last_line ≡ true) × (known c v a b ≡ true)
unfolding line_stops stops_in stops_beyond
goes-entry k c t v a b e =
    on (tested (leb k last_line))
    (λ q.
    let r : choose (knows (group_of c) v a b) 0 8 ≡ 0 = sym (chosen 4 q) ∙ e in
    (q, on (tested (known c v a b)) (λ x. x) (λ x. absurd (let z : ◌≡◌ {A = ℕ} 8 0 = sym (other 0 (knows-is c a b v ∙ x)) ∙ r in omega (arith, z)))))
    (λ q. absurd (let z : ◌≡◌ {A = ℕ} 4 0 = sym (other (choose (knows (group_of c) v a b) 0 8) q) ∙ e in omega (arith, z)))

goes_end : (k : ℕ) (g : Group) (t : ℕ) → line_stops k g (end t) ≡ 0 → leb k last_line ≡ true
unfolding line_stops stops_in stops_beyond
goes_end k g t e =
    on (tested (leb k last_line)) (λ q. q) (λ q. absurd (let z : ◌≡◌ {A = ℕ} 4 0 = sym (other 0 q) ∙ e in omega (arith, z)))

entry-early : (c : State) (t : ℕ) (v : Verb) (a b : ℕ) → known c v a b ≡ true → ltb t c.frame ≡ true → entry_effect c t v a b ≡ go (line c.frame a (refused_word 11)) (day.on atEntries c)
unfolding entry_effect
entry-early c t v a b e f = rw (e, f, entry_effect)

entry-goes : (c : State) (t : ℕ) (v : Verb) (a b : ℕ) → known c v a b ≡ true → ltb t c.frame ≡ false → entry_effect c t v a b ≡ call_effect (lines_by (t - c.frame) c) (advanced_by (t - c.frame) c) v a b
unfolding entry_effect
entry-goes c t v a b e f = rw (e, f, entry_effect)

end-early : (c : State) (t : ℕ) → ltb t c.frame ≡ true → end_effect c t ≡ go (line c.frame 0 (refused_word 11)) (day.on atEntries c)
unfolding end_effect
end-early c t f = rw (f, end_effect)

end_goes : (c : State) (t : ℕ) → ltb t c.frame ≡ false → end_effect c t ≡ go (lines_by (t - c.frame) c) (day.on atClose (advanced_by (t - c.frame) c))
unfolding end_effect
end_goes c t f = rw (f, end_effect)

call-taken : (w : List ℕ) (c : State) (v : Verb) (a b : ℕ) → eqb (verb_refusal c v a b) 0 ≡ true → call_effect w c v a b ≡ go (w ++ (verb_outcome c v a b).lines) (day.on atEntries (did c v a b))
unfolding call_effect
call-taken w c v a b e = rw (e, call_effect)

call-refused : (w : List ℕ) (c : State) (v : Verb) (a b : ℕ) → eqb (verb_refusal c v a b) 0 ≡ false → call_effect w c v a b ≡ go (w ++ line c.frame a (refused_word (verb_refusal c v a b))) (day.on atEntries c)
unfolding call_effect
call-refused w c v a b e = rw (e, call_effect)

-- the call of an entry, as the group makes it
call-is : (w : List ℕ) (c : State) (v : Verb) (a b : ℕ) → Sound c → call_effect w c v a b ≡ go (w ++ entry_prints (group_of c) v a b) (day.on atEntries (call_channel c (call_of c (group.entry v a b))))
unfolding entry_prints call_channel channel_in
call-is w c v a b sound =
    let n = entry-number c a b v in
    let x = exact (verb_outcome c v a b) in
    on (tested (eqb (verb_refusal c v a b) 0))
    (λ e.
    call-taken w c v a b e
    ∙ ap₂ (λ (y : List ℕ) (z : State). go (w ++ y) (day.on atEntries z))
    (sym (chosen _ (ap (λ (m : ℕ). eqb m 0) n ∙ e) ∙ entry-lines c sound a b v))
    (sym (chosen c (ap (λ (m : ℕ). eqb m 0) x ∙ e))))
    (λ e.
    call-refused w c v a b e
    ∙ ap₂ (λ (y : List ℕ) (z : State). go (w ++ y) (day.on atEntries z))
    (sym (other _ (ap (λ (m : ℕ). eqb m 0) n ∙ e) ∙ ap (λ (m : ℕ). line c.frame a (refused_word m)) n))
    (sym (other (did c v a b) (ap (λ (m : ℕ). eqb m 0) x ∙ e))))

-- after the day's end
close_in : (c : State) (l : DayLine) → line_effect (day.on atClose c) l ≡ stop (stops_beyond l)
unfolding stops_beyond
close_in c (wrong n) = refl
close_in c (period p) = refl
close_in c (server i p) = refl
close_in c (entry t v a b) = refl
close_in c (end t) = refl

closes : (k : ℕ) (c : State) (ls : List (List ℕ)) → sheet_from k (day.on atClose c) ls ≡ closed k ls
unfolding sheet_from closed
closes k c [] = refl
closes k c (l ∷ ls) =
    on (tested (leb k last_line))
    (λ q. sheet-stop k (stops_beyond (line_read l)) (day.on atClose c) l ls (effect_early k (day.on atClose c) (line_read l) q ∙ close_in c (line_read l)))
    (λ q. sheet-stop k (stops_beyond (line_read l)) (day.on atClose c) l ls (effect_late k (day.on atClose c) (line_read l) q ∙ beyond-is (line_read l)))

-- ---- all lines

pub prints : (k : ℕ) (g : Group) (ls : List (List ℕ)) (w : List ℕ) (c : State) → Sound c → g ≡ group_of c → Prints k g ls w → w ≡ sheet_from k (day.on atEntries c) ls
unfolding sheet_from
prints k g ls w c sound e unended = refl
prints k g ls w c sound e (faults {n = n} {l = l} {ls = ls'} r) =
    let d = day.on atEntries c in
    let fault : effect_of k d (wrong n) ≡ stop n = on (tested (leb k last_line)) (effect_early k d (wrong n)) (effect_late k d (wrong n)) in
    sym (sheet-stop k n d l ls' (ap (effect_of k d) r ∙ fault))
prints k g ls w c sound e (stops {n = n} {l = l} {ls = ls'} s) =
    sym (sheet-stop k (suc n) (day.on atEntries c) l ls' (line-stops k c (line_read l) n (ap (λ (x : Group). line_stops k x (line_read l)) (sym e) ∙ s)))
prints k g ls w c sound e (early {t = t} {a = a} {b = b} {v = v} {l = l} {w = u} {ls = ls'} r s f more) =
    let go_on = goes-entry k c t v a b (ap (λ (x : Group). line_stops k x (entry t v a b)) (sym e) ∙ s) in
    let here = ap (λ (x : Group). ltb t x.frame) (sym e) ∙ f in
    ap₂ (λ (x : Group) (y : List ℕ). line x.frame a (refused_word 11) ++ y) e (prints (suc k) g ls' u c sound e more)
    ∙ sym (sheet-go k (day.on atEntries c) (day.on atEntries c) (line c.frame a (refused_word 11)) l ls' (ap (effect_of k (day.on atEntries c)) r ∙ effect_early k (day.on atEntries c) (entry t v a b) go_on.0 ∙ entry-early c t v a b go_on.1 here))
prints k g ls w c sound e (enters {t = t} {a = a} {b = b} {v = v} {d = d} {l = l} {u = u} {w = y} {ls = ls'} r s f frames more) =
    let go_on = goes-entry k c t v a b (ap (λ (x : Group). line_stops k x (entry t v a b)) (sym e) ∙ s) in
    let here : ltb t c.frame ≡ false = ap (λ (x : Group). ltb t x.frame) (sym e) ∙ f in
    let n = t - c.frame in
    let same : t - g.frame ≡ n = ap (λ (x : Group). t - x.frame) e in
    let p = played n g d u c sound e (subst (λ (m : ℕ). Plays m g d u) same frames) in
    let c' = advanced_by n c in
    let sound' = sound-by n c sound in
    let c'' = call_channel c' (call_of c' (group.entry v a b)) in
    let there : moved d (group.entry v a b) ≡ group_of c'' = ap (λ (x : Group). moved x (group.entry v a b)) p.0 ∙ moved-is c' (group.entry v a b) sound' tt in
    ap₂ (λ (x y : List ℕ). x ++ y)
    (ap₂ (λ (x : List ℕ) (z : Group). x ++ entry_prints z v a b) p.1 p.0)
    (prints (suc k) (moved d (group.entry v a b)) ls' y c'' (sound-call c' (call_of c' (group.entry v a b)) sound') there more)
    ∙ sym (sheet-go k (day.on atEntries c) (day.on atEntries c'') (lines_by n c ++ entry_prints (group_of c') v a b) l ls' (ap (effect_of k (day.on atEntries c)) r ∙ effect_early k (day.on atEntries c) (entry t v a b) go_on.0 ∙ entry-goes c t v a b go_on.1 here ∙ call-is (lines_by n c) c' v a b sound'))
prints k g ls w c sound e (ends_early {t = t} {l = l} {w = u} {ls = ls'} r s f more) =
    let here = ap (λ (x : Group). ltb t x.frame) (sym e) ∙ f in
    ap₂ (λ (x : Group) (y : List ℕ). line x.frame 0 (refused_word 11) ++ y) e (prints (suc k) g ls' u c sound e more)
    ∙ sym (sheet-go k (day.on atEntries c) (day.on atEntries c) (line c.frame 0 (refused_word 11)) l ls' (ap (effect_of k (day.on atEntries c)) r ∙ effect_early k (day.on atEntries c) (end t) (goes_end k g t s) ∙ end-early c t here))
prints k g ls w c sound e (ends {t = t} {d = d} {l = l} {u = u} {ls = ls'} r s f frames) =
    let here : ltb t c.frame ≡ false = ap (λ (x : Group). ltb t x.frame) (sym e) ∙ f in
    let n = t - c.frame in
    let same : t - g.frame ≡ n = ap (λ (x : Group). t - x.frame) e in
    let p = played n g d u c sound e (subst (λ (m : ℕ). Plays m g d u) same frames) in
    ap₂ (λ (x y : List ℕ). x ++ y) p.1 (sym (closes (suc k) (advanced_by n c) ls'))
    ∙ sym (sheet-go k (day.on atEntries c) (day.on atClose (advanced_by n c)) (lines_by n c) l ls' (ap (effect_of k (day.on atEntries c)) r ∙ effect_early k (day.on atEntries c) (end t) (goes_end k g t s) ∙ end_goes c t here))

-- ---- where entries begin

opens : (c : State) (s : Effect) → fresh_refusal (day.table_of c) c.period.frames ≡ 0 → opening c s ≡ s
unfolding opening
opens c s e = rw (eq-eqb (fresh_refusal (day.table_of c) c.period.frames) 0 e, opening)

begins_in : (c : State) (l : DayLine) → is_entry l ≡ true → fresh_refusal (day.table_of c) c.period.frames ≡ 0 → line_effect (day.on atServers c) l ≡ line_effect (day.on atEntries c) l
unfolding is_entry
begins_in c (wrong n) i e = absurd (clash i refl)
begins_in c (period p) i e = absurd (clash i refl)
begins_in c (server x p) i e = absurd (clash i refl)
begins_in c (entry t v a b) i e = opens c (entry_effect c t v a b) e
begins_in c (end t) i e = opens c (end_effect c t) e

begins-at : (k : ℕ) (c : State) (l : List ℕ) (ls : List (List ℕ)) → is_entry (line_read l) ≡ true → fresh_refusal (day.table_of c) c.period.frames ≡ 0 → sheet_from k (day.on atEntries c) (l ∷ ls) ≡ sheet_from k (day.on atServers c) (l ∷ ls)
unfolding sheet_from
begins-at k c l ls i e =
    ap (λ (x : Effect). elim x [ stop n ↦ input_refusal k n | go w d ↦ w ++ sheet_from (suc k) d ls ])
    (on (tested (leb k last_line))
    (λ q. effect_early k (day.on atEntries c) (line_read l) q ∙ sym (begins_in c (line_read l) i e) ∙ sym (effect_early k (day.on atServers c) (line_read l) q))
    (λ q. effect_late k (day.on atEntries c) (line_read l) q ∙ sym (effect_late k (day.on atServers c) (line_read l) q)))

-- ---- the lines before them

-- the table of a fresh channel is the one that it was opened with
pub its_table : (t : Table) (n : ℕ) → is_table t.servers ≡ true → day.table_of (fresh t n) ≡ t
its_table t n ok = ap (λ (l : List Server). record { servers = l }) (same-servers t.servers ok)

-- a server that is taken
pub add_taken : (t : Table) (n i p : ℕ) → add_refusal t i ≡ 0 → add_effect (fresh t n) i p ≡ go [] (day.on atServers (fresh (added t i p) n))
unfolding add_effect
add_taken t n i p e =
    let same = its_table t n (to-table t i e).0 in
    chosen (stop (add_refusal (day.table_of (fresh t n)) i)) (ap (λ (u : Table). eqb (add_refusal u i) 0) same ∙ eq-eqb (add_refusal t i) 0 e)
    ∙ ap (λ (u : Table). go [] (day.on atServers (fresh (added u i p) n))) same

servers-added :
    (k : ℕ) (t u : Table) (n : ℕ) (ss ls : List (List ℕ)) → AddsAll t ss u → k + length ss ≤ last_line →
    sheet_from k (day.on atServers (fresh t n)) (ss ++ ls) ≡ sheet_from (length ss + k) (day.on atServers (fresh u n)) ls
servers-added k t u n ss ls none few = let z : k ≡ 0 + k = omega arith in ap (λ (m : ℕ). sheet_from m (day.on atServers (fresh t n)) ls) z
servers-added k t u n ss ls (next {i = i} {p = p} {l = l} {ls = ss'} r e more) few =
    let d = day.on atServers (fresh t n) in
    let early : leb k last_line ≡ true = le-leb k last_line (omega (arith, few)) in
    let count : length ss' + suc k ≡ suc (length ss') + k = omega arith in
    sheet-go k d (day.on atServers (fresh (added t i p) n)) [] l (ss' ++ ls) (ap (effect_of k d) r ∙ effect_early k d (server i p) early ∙ add_taken t n i p e)
    ∙ servers-added (suc k) (added t i p) u n ss' ls more (omega (arith, few))
    ∙ ap (λ (m : ℕ). sheet_from m (day.on atServers (fresh u n)) ls) count

pub one_sheet_of_a_day : OneSheetOfADay
unfolding sheet
one_sheet_of_a_day s t n k rest w d p =
    let c = fresh t n in
    let ss = d.servers in
    let few = few-added empty t ss table_empty d.table in
    let opened = its_table t n (table-opened t n d.taken) in
    let taken = ap (λ (u : Table). fresh_refusal u n) opened ∙ d.taken in
    let line : length ss + 2 ≡ k = sym d.line in
    ap (λ (ls : List (List ℕ)). header ++ sheet_from 1 day.begin ls) d.bytes
    ∙ ap (λ (x : List ℕ). header ++ x)
    (sheet-go 1 day.begin (day.on atServers (fresh empty n)) [] d.first (ss ++ rest)
    (ap (effect_of 1 day.begin) d.period ∙ effect_early 1 day.begin (period n) refl)
    ∙ servers-added 2 empty t n ss rest d.table (omega (arith, few))
    ∙ ap (λ (m : ℕ). sheet_from m (day.on atServers c) rest) line
    ∙ ap (λ (ls : List (List ℕ)). sheet_from k (day.on atServers c) ls) d.begins
    ∙ sym (begins-at k c d.entries d.more d.entry taken)
    ∙ ap (λ (ls : List (List ℕ)). sheet_from k (day.on atEntries c) ls) (sym d.begins)
    ∙ sym (prints k (new_group t n) rest w c (sound-fresh t n d.taken) (new-group t n) p))
