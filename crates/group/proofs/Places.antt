-- Places of a channel, frame by frame. Assumes nothing.
use mathlib.Core.Path.{◌≡◌, refl, ap, ◌∙◌}
use mathlib.Core.List.{List, [], ◌∷◌}
use Prim.Native.Nat.{ℕ, zero, suc, ◌+◌, ◌<◌}
use native.Mathlib.Omega.{arith}
use lib.ListN.{length, get_or}
use Rattle.lists.specs.Lists.{map_from}
use Rattle.server.specs.Server.{absent}
use Rattle.group.specs.declared.State.{State}
use Rattle.group.specs.Hearing.{place}
use Rattle.group.specs.Frame.{turned, advanced}
use Rattle.group.specs.Advance.{advanced_by}

-- an element of a mapped list
pub map_at : {A : Type 0} (f : ℕ → A → A) (k : ℕ) (l : List A) (i : ℕ) (d : A) → i < length l → get_or (map_from k f l) i d ≡ f (k + i) (get_or l i d)
map_at f k [] i d h = absurd (omega arith)
map_at f k (x ∷ l) zero d h = ap (λ (n : ℕ). f n x) (let e : k ≡ k + 0 = omega arith in e)
map_at f k (x ∷ l) (suc i) d h =
    map_at f (suc k) l i d (omega arith) ∙ ap (λ (n : ℕ). f n (get_or l i d)) (let e : suc k + i ≡ k + suc i = omega arith in e)

-- and its length
pub length_from : {A : Type 0} (f : ℕ → A → A) (k : ℕ) (l : List A) → length (map_from k f l) ≡ length l
length_from f k [] = refl
length_from f k (x ∷ l) = ap suc (length_from f (suc k) l)

-- a place after a frame
pub place-advanced : (c : State) (i : ℕ) → i < length c.servers → place (advanced c) i ≡ turned c (c.frame + 1) i (place c i)
unfolding advanced
place-advanced c i h =
    map_at (turned c (c.frame + 1)) 0 c.servers i absent h
    ∙ ap (λ (n : ℕ). turned c (c.frame + 1) n (place c i)) (let e : 0 + i ≡ i = omega arith in e)

pub long-advanced : (c : State) → length (advanced c).servers ≡ length c.servers
unfolding advanced
long-advanced c = length_from (turned c (c.frame + 1)) 0 c.servers

-- the frame after k frames
pub frame-after : (k : ℕ) (c : State) → (advanced_by k c).frame ≡ c.frame + k
unfolding advanced_by advanced
frame-after zero c = omega arith
frame-after (suc k) c = frame-after k (advanced c) ∙ (let e : (c.frame + 1) + k ≡ c.frame + suc k = omega arith in e)
