-- Which links are cut: "A link is cut if the last accepted `cut` or `mend` of it was a `cut`, and
-- whole if there was none."
use Rattle.std.specs.Prelude.{Bool, true, false, ◌&&◌, List, [], ◌∷◌, ◌≡◌, ℕ, eqb}
use Rattle.lists.specs.Choice.{choose}
use Rattle.roles.specs.declared.Verb.{Verb}
use Rattle.roles.specs.declared.Verb.TheVariants.{Start, Ready, Unready, Pass, Crash, Restart, Cut, Mend}
use Rattle.group.specs.declared.State.{State}
use Rattle.group.specs.Calls.{Call, verb, advance, advance_to, call_number, call_channel}

-- whether a link is cut after an accepted verb of it; `was` says whether it was before
abbrev pub cut_by_verb : Verb → Bool → Bool
cut_by_verb Start was = was
cut_by_verb Ready was = was
cut_by_verb Unready was = was
cut_by_verb Pass was = was
cut_by_verb Crash was = was
cut_by_verb Restart was = was
cut_by_verb Cut was = true
cut_by_verb Mend was = false

-- whether the link from the identity a to the identity b is cut after an accepted call
unfoldable pub cut_by_call : ℕ → ℕ → Call → Bool → Bool
cut_by_call a b (verb v x y d) was = choose (eqb x a && eqb y b) (cut_by_verb v was) was
cut_by_call a b (advance d) was = was
cut_by_call a b (advance_to t d) was = was

-- and after a list of calls, of which the refused ones do nothing
unfoldable pub cut_after : ℕ → ℕ → State → List Call → Bool → Bool
cut_after a b c [] was = was
cut_after a b c (k ∷ ks) was = cut_after a b (call_channel c k) ks (choose (eqb (call_number c k) 0) (cut_by_call a b k was) was)

-- (demand 3) "after the list no link is cut": after the calls ks on the channel c, in which none
-- was
abbrev pub NoLinkCut : State → List Call → Type 0
NoLinkCut c ks = (a b : ℕ) → cut_after a b c ks false ≡ false
