-- The links that a channel keeps are as its calls left them. The proof is in proofs/Demand.antt.
use Rattle.std.specs.Prelude.{false, not, ◌≡◌, List, ℕ, ◌<◌}
use Rattle.group.specs.declared.Table.{Table}
use Rattle.group.specs.Table.{most, fresh_refusal, fresh}
use Rattle.group.specs.Hearing.{place, whole}
use Rattle.group.specs.Calls.{Call, channel_after}
use Rattle.group.specs.Links.{cut_after}

-- after any list of calls on a fresh channel, the link from place i to place j is whole if and only
-- if `cut_after` does not say that it is cut
abbrev pub LinksAreAsCut : Type 0
LinksAreAsCut =
    (n : ℕ) (t : Table) (ks : List Call) → fresh_refusal t n ≡ 0 → (i j : ℕ) → i < most → j < most →
    let c = fresh t n in whole (channel_after c ks) i j ≡ not (cut_after (place c i).identity (place c j).identity c ks false)
