-- Identities and priorities, and which of two servers is higher.
use Rattle.std.specs.Prelude.{Bool, List, ℕ, ltb, eqb}
use Rattle.lists.specs.Choice.{choose}
use Rattle.refusal.specs.Answer.{Answer}
use Rattle.text.specs.Number.{read_number}
use Rattle.heartbeat.specs.declared.Rank.{Rank}

-- "Each has an identity 1..65,535 .. and a priority 0..255."
abbrev pub least_identity : ℕ
least_identity = 1

abbrev pub greatest_identity : ℕ
greatest_identity = 65535

abbrev pub greatest_priority : ℕ
greatest_priority = 255

abbrev pub read_identity : List ℕ → Answer
read_identity s = read_number least_identity greatest_identity s

abbrev pub read_priority : List ℕ → Answer
read_priority s = read_number 0 greatest_priority s

-- a is higher than b: "Of two servers the one with greater priority is higher; with equal priority,
-- the one with greater identity."
unfoldable pub higher : Rank → Rank → Bool
higher a b = choose (eqb a.priority b.priority) (ltb b.identity a.identity) (ltb b.priority a.priority)

-- a is lower than b. Of two servers with the same priority and identity neither is higher nor lower
abbrev pub lower : Rank → Rank → Bool
lower a b = higher b a
