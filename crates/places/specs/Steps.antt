-- What private functions answer. Nothing is promised here.
use Rattle.std.specs.Prelude.{List, ◌≡◌, ℕ, ◌<◌}
use Rattle.server.specs.declared.Server.{Server}
use Rattle.places.specs.Words.{put_at}

-- a server whose numbers have the widths of their fields, as every server has in code
pub record Fits (s : Server) : Type 0 where
  pub identity : s.identity < 65536
  pub priority : s.priority < 256
  pub beats : s.beats < 256
  pub pass : s.pass < 65536

-- the five numbers of place i are those of the server s
pub record Stores (w : List ℕ) (i : ℕ) (s : Server) (w' : List ℕ) : Type 0 where
  pub numbers : w' ≡ put_at w i s
  pub fits : Fits s
