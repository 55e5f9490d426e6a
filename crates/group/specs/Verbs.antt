-- The eight verbs of a channel.
use Rattle.std.specs.Prelude.{Bool, true, false, not, ◌&&◌, ◌||◌, List, ℕ, eqb, set}
use Rattle.lists.specs.Choice.{choose}
use Rattle.roles.specs.declared.Verb.{Verb}
use Rattle.roles.specs.declared.Verb.TheVariants.{Start, Ready, Unready, Pass, Crash, Restart, Cut, Mend}
use Rattle.roles.specs.declared.Event.{Event}
use Rattle.roles.specs.declared.Word.TheVariants as word
use Rattle.roles.specs.declared.Said.{Said}
use Rattle.roles.specs.declared.Said.TheVariants as says
use Rattle.server.specs.Server.{after}
use Rattle.roles.specs.Verbs.{paired, verb_happens}
use Rattle.server.specs.Verbs.{verb_answer}
use Rattle.roles.specs.Words.{said}
use Rattle.group.specs.declared.State.{State}
use Rattle.group.specs.Outcome.{Outcome}
use Rattle.group.specs.Table.{place_in, is_in}
use Rattle.group.specs.Hearing.{place, link_of, whole}
use Rattle.lines.specs.Lines.{lines_of}

abbrev pub place_of : State → ℕ → ℕ
place_of c i = place_in c.servers i

abbrev pub in_table : State → ℕ → Bool
in_table c i = is_in c.servers i

-- 2: an identity 0; the second counts only where the verb has one
unfoldable pub names_nobody : Verb → ℕ → ℕ → Bool
names_nobody v a b = eqb a 0 || (paired v && eqb b 0)

-- not "8. Identity not in the table, or both identities the same." Of a second server no more is
-- asked: of a pass, "b may be down"
unfoldable pub known : State → Verb → ℕ → ℕ → Bool
known c v a b = in_table c a && choose (paired v) (in_table c b && not (eqb a b)) true

-- the link from a to b is whole
abbrev pub link_whole : State → ℕ → ℕ → Bool
link_whole c a b = whole c (place_of c a) (place_of c b)

-- of identities that get neither 2 nor 8: 12 ("the acting server only"), 13 or 14 by the acting
-- server's role (`enters`); "15. `cut` of a cut link, `mend` of a whole one."
unfoldable pub state_refusal : State → Verb → ℕ → ℕ → ℕ
state_refusal c Start a b = (verb_answer Start b (place c (place_of c a))).number
state_refusal c Ready a b = (verb_answer Ready b (place c (place_of c a))).number
state_refusal c Unready a b = (verb_answer Unready b (place c (place_of c a))).number
state_refusal c Pass a b = (verb_answer Pass b (place c (place_of c a))).number
state_refusal c Crash a b = (verb_answer Crash b (place c (place_of c a))).number
state_refusal c Restart a b = (verb_answer Restart b (place c (place_of c a))).number
state_refusal c Cut a b = choose (link_whole c a b) 0 15
state_refusal c Mend a b = choose (link_whole c a b) 15 0

-- what a verb gets: 2, else 8, else what the state says. "Each is returned under its stated
-- condition only. .. otherwise the lowest number wins."
unfoldable pub verb_refusal : State → Verb → ℕ → ℕ → ℕ
verb_refusal c v a b = choose (names_nobody v a b) 2 (choose (known c v a b) (state_refusal c v a b) 8)

-- what happens to the acting server
abbrev pub happens : State → Verb → ℕ → ℕ → Event
happens c v a b = verb_happens v b (verb_answer v b (place c (place_of c a)))

-- the links after an allowed verb, k being the number of the link: "the link from a to b only"
abbrev pub links_after : Verb → ℕ → List Bool → List Bool
links_after Start k l = l
links_after Ready k l = l
links_after Unready k l = l
links_after Pass k l = l
links_after Crash k l = l
links_after Restart k l = l
links_after Cut k l = set l k false
links_after Mend k l = set l k true

-- what the sheet says of an allowed verb: "`cut`, `mended` (first identity)"
abbrev pub verb_said : Verb → Event → Said
verb_said Start e = said e
verb_said Ready e = said e
verb_said Unready e = said e
verb_said Pass e = said e
verb_said Crash e = said e
verb_said Restart e = said e
verb_said Cut e = says.One word.Cut
verb_said Mend e = says.One word.Mended

-- the channel after an allowed verb, in the frame that c is in: "Entries of a frame come after its
-- hearing and timers, in their order."
unfoldable pub did : State → Verb → ℕ → ℕ → State
did c v a b =
    record {
      frame = c.frame;
      period = c.period;
      servers = set c.servers (place_of c a) (after c.frame (place c (place_of c a)) (happens c v a b));
      whole = links_after v (link_of (place_of c a) (place_of c b)) c.whole;
    }

abbrev pub verb_outcome : State → Verb → ℕ → ℕ → Outcome
verb_outcome c v a b =
    record { number = verb_refusal c v a b; lines = lines_of c.frame a (verb_said v (happens c v a b)); channel = did c v a b }
