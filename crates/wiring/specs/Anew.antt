-- A process that comes up again after a crash makes a new front: the group prints the same.
use Rattle.std.specs.Prelude.{List, [], ◌∷◌, ◌++◌, map, ◌≡◌, ℕ, eqb, set}
use Rattle.lists.specs.Choice.{choose}
use Rattle.roles.specs.declared.Verb.TheVariants.{Restart}
use Rattle.front.specs.Anew.{new_at, Alike}
use Rattle.group.specs.declared.Table.{Table}
use Rattle.group.specs.Table.{fresh_refusal}
use Rattle.wiring.specs.Members.{Member}
use Rattle.wiring.specs.Heard.{Group, member_at}
use Rattle.wiring.specs.Group.{new_group, place_of, Move, entry, move_number, move_lines, moved, group_after, group_numbers, group_lines, WiredIn, Wired}

-- a new front, its frame set to the present one. What was sent stays: "Heartbeats sent before a
-- crash are still heard."
abbrev pub new_for : Member → Member
new_for m =
    let s = m.front.server in
    record { front = new_at s.identity s.priority m.front.period.frames m.front.frame; sent = m.sent }

-- the server a has one
abbrev pub renewed : Group → ℕ → Group
renewed g a = record { frame = g.frame; members = set g.members (place_of g a) (new_for (member_at g (place_of g a))); whole = g.whole }

-- a frame or an entry; or the `restart` of the server a, which comes up with a new front
pub data Doing : Type 0 where
  moves : Move → Doing
  comes_up : ℕ → Doing

abbrev pub move_of : Doing → Move
move_of (moves k) = k
move_of (comes_up a) = entry Restart a 0

-- the group after it
abbrev pub done : Group → Doing → Group
done g (moves k) = moved g k
done g (comes_up a) = choose (eqb (move_number g (entry Restart a 0)) 0) (renewed (moved g (entry Restart a 0)) a) (moved g (entry Restart a 0))

unfoldable pub done_after : Group → List Doing → Group
done_after g [] = g
done_after g (x ∷ xs) = done_after (done g x) xs

unfoldable pub done_numbers : Group → List Doing → List ℕ
done_numbers g [] = []
done_numbers g (x ∷ xs) = move_number g (move_of x) ∷ done_numbers (done g x) xs

unfoldable pub done_lines : Group → List Doing → List ℕ
done_lines g [] = []
done_lines g (x ∷ xs) = choose (eqb (move_number g (move_of x)) 0) (move_lines g (move_of x)) [] ++ done_lines (done g x) xs

pub data DoneWired : Group → List Doing → Type 0 where
  none : {g : Group} → DoneWired g []
  next : {g : Group} {x : Doing} {xs : List Doing} → WiredIn g (move_of x) → DoneWired (done g x) xs → DoneWired g (x ∷ xs)

-- it is as if the old fronts had gone on: the same numbers and lines, in each place the same frame,
-- identity, priority, period and role, and the same sent
pub record GoesOnAlike (g : Group) (xs : List Doing) : Type 0 where
  pub wired : Wired g (map move_of xs)
  pub numbers : done_numbers g xs ≡ group_numbers g (map move_of xs)
  pub lines : done_lines g xs ≡ group_lines g (map move_of xs)
  pub fronts : (i : ℕ) → Alike (member_at (done_after g xs) i).front (member_at (group_after g (map move_of xs)) i).front
  pub sent : (i : ℕ) → (member_at (done_after g xs) i).sent ≡ (member_at (group_after g (map move_of xs)) i).sent
  pub frame : (done_after g xs).frame ≡ (group_after g (map move_of xs)).frame
  pub whole : (done_after g xs).whole ≡ (group_after g (map move_of xs)).whole

abbrev pub NewFrontsGoOn : Type 0
NewFrontsGoOn = (t : Table) (n : ℕ) (xs : List Doing) → fresh_refusal t n ≡ 0 → DoneWired (new_group t n) xs → GoesOnAlike (new_group t n) xs
