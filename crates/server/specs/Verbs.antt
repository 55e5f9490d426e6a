-- The verbs of one server.
use Rattle.std.specs.Prelude.{◌&&◌, ◌||◌, ◌≡◌, ℕ, eqb, Err}
use Rattle.lists.specs.Choice.{choose}
use Rattle.refusal.specs.Answer.{Answer, refused, of_verdict}
use Rattle.refusal.specs.declared.Refusal.{Refusal}
use Rattle.roles.specs.declared.Verb.{Verb}
use Rattle.roles.specs.declared.Event.TheVariants.{Nothing}
use Rattle.roles.specs.Verbs.{enters, paired, verb_happens}
use Rattle.server.specs.declared.Server.{Server}
use Rattle.server.specs.declared.Acted.{Acted}
use Rattle.server.specs.Server.{after}

-- What a verb gets from one server: 2 for an identity 0, the second or the server's own (an empty
-- place, on which document 01 is silent); 8 for "both identities the same"; then what its role
-- allows. One server knows neither the table (8 for an identity not in it) nor the links (15): the
-- channel has those.
unfoldable pub verb_answer : Verb → ℕ → Server → Answer
verb_answer v b s =
    choose (eqb s.identity 0 || (paired v && eqb b 0)) (refused 2)
    (choose (paired v && eqb b s.identity) (refused 8) (enters v s.role))

-- what a call in frame t with the answer a makes of the server s: its number, what happened, and
-- the server afterwards. Where it is refused, nothing happens and the server is the same
pub record Acts (v : Verb) (t b : ℕ) (s : Server) (a : Answer) (r : Acted) : Type 0 where
  pub number : of_verdict r.verdict ≡ a.number
  pub event : r.event ≡ verb_happens v b a
  pub server : r.server ≡ after t s (verb_happens v b a)

-- a refused verb: the same server
abbrev pub refusing : Server → Refusal → Acted
refusing s k = record { verdict = Err k; server = s; event = Nothing }
