-- What private functions answer. Nothing is promised here.
use Rattle.std.specs.Prelude.{Bool, true, false, not, ◌&&◌, ◌≡◌, List, ℕ, ◌%◌, ltb, eqb, length, set, Result, Ok, Err}
use Rattle.lists.specs.Choice.{choose}
use Rattle.refusal.specs.declared.Refusal.{Refusal}
use Rattle.refusal.specs.Answer.{number_of}
use Rattle.server.specs.declared.Server.{Server}
use Rattle.roles.specs.declared.Verb.{Verb}
use Rattle.roles.specs.declared.Verb.TheVariants.{Start, Ready, Unready, Pass, Crash, Restart, Cut, Mend}
use Rattle.server.specs.Server.{after}
use Rattle.roles.specs.Verbs.{paired, verb_happens}
use Rattle.server.specs.Verbs.{verb_answer}
use Rattle.group.specs.declared.State.{State}
use Rattle.group.specs.Outcome.{Outcome, channel_in}
use Rattle.group.specs.Answers.{Gives}
use Rattle.group.specs.Table.{most}
use Rattle.group.specs.Hearing.{place, link_of, whole}
use Rattle.group.specs.Verbs.{place_of, verb_said, verb_outcome}
use Rattle.frame.specs.Answers.{verdict_of, bytes_of}
use Rattle.verbs.specs.declared.Deed.{Deed}
use Rattle.verbs.specs.declared.Made.{Made}

abbrev pub known_at : Verb → ℕ → ℕ → ℕ → ℕ → Bool
known_at v a b i j = ltb i most && choose (paired v) (ltb j most && not (eqb a b)) true

-- 12 to 15, of the server s and the link w
abbrev pub state_number : Verb → ℕ → Server → Bool → ℕ
state_number Start b s w = (verb_answer Start b s).number
state_number Ready b s w = (verb_answer Ready b s).number
state_number Unready b s w = (verb_answer Unready b s).number
state_number Pass b s w = (verb_answer Pass b s).number
state_number Crash b s w = (verb_answer Crash b s).number
state_number Restart b s w = (verb_answer Restart b s).number
state_number Cut b s w = choose w 0 15
state_number Mend b s w = choose w 15 0

-- the link after an allowed verb
abbrev pub link_after : Verb → Bool → Bool
link_after Start w = w
link_after Ready w = w
link_after Unready w = w
link_after Pass w = w
link_after Crash w = w
link_after Restart w = w
link_after Cut w = false
link_after Mend w = true

-- what a verb in frame t makes of the server s and the link w
pub record Makes (t : ℕ) (v : Verb) (b : ℕ) (s : Server) (w : Bool) (r : Deed) : Type 0 where
  pub told : r.said ≡ verb_said v (verb_happens v b (verb_answer v b s))
  pub server : r.server ≡ after t s (verb_happens v b (verb_answer v b s))
  pub link : r.link ≡ link_after v w

-- the same where the state allows it, or the number that it gets
pub record Does (t : ℕ) (v : Verb) (b : ℕ) (s : Server) (w : Bool) (r : Result Deed Refusal) : Type 0 where
  pub allowed : (e : Deed) → r ≡ Ok e → (state_number v b s w ≡ 0) × Makes t v b s w e
  pub refused : (k : Refusal) → r ≡ Err k → state_number v b s w ≡ number_of k

-- an allowed verb with the lines w: what it wrote or 9, and the slice afterwards, whatever the
-- channel is
abbrev pub Tells : List ℕ → List ℕ → Result ℕ Refusal → List ℕ → Type 0
Tells w d r d' =
    (c : State) (o : Outcome) → o.number ≡ 0 → o.lines ≡ w → Gives c o d (verdict_of r) (bytes_of r) (channel_in c o (length d)) d'

-- the state with another server at place i and another link from there to place j
abbrev pub put : State → ℕ → ℕ → Server → Bool → State
put c i j s w = record { frame = c.frame; period = c.period; servers = set c.servers i s; whole = set c.whole (link_of i j) w }

-- of the verb v on the channel c, with its identities at the places x and y: what is handed back
-- where it is allowed, and where it is not
pub record Decided (c : State) (v : Verb) (a b x y : ℕ) (d : List ℕ) (r : Result Made Refusal) (d' : List ℕ) : Type 0 where
  pub allowed : (m : Made) → r ≡ Ok m → Gives c (verb_outcome c v a b) d (Ok tt) m.written (put c (x % most) (y % most) m.server m.link) d'
  pub refused : (k : Refusal) → r ≡ Err k → Gives c (verb_outcome c v a b) d (Err k) 0 c d'

-- so it is for every channel with this server and this link at these places
abbrev pub Decides : ℕ → Verb → ℕ → ℕ → ℕ → ℕ → Server → Bool → List ℕ → Result Made Refusal → List ℕ → Type 0
Decides t v a b x y s w d r d' =
    (c : State) → c.frame ≡ t → x ≡ place_of c a → y ≡ choose (paired v) (place_of c b) 0 → s ≡ place c (x % most) → w ≡ whole c (x % most) (y % most) →
    Decided c v a b x y d r d'
