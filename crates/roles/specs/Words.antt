-- The words of the sheet.
use Rattle.std.specs.Prelude.{List, ℕ}
use Rattle.text.specs.Words.{bytes}
use Rattle.roles.specs.declared.Word.{Word}
use Rattle.roles.specs.declared.Word.TheVariants as word
use Rattle.roles.specs.declared.Event.{Event}
use Rattle.roles.specs.declared.Event.TheVariants.{Nothing, ToBackup, ToProspectBeat, ToProspectReveal, Lower, LowerBeat, Beat, ToPrimary, ToSync, ToIdle, ToDown, Passed}
use Rattle.roles.specs.declared.Said.{Said}
use Rattle.roles.specs.declared.Said.TheVariants as says

-- "a role entered (`sync`, `backup`, `prospect`, `primary`, `idle`, `down`), a heartbeat sent
-- (`beat`, `reveal`, `pass`), `lower`, `cut`, `mended`"
abbrev pub word_bytes : Word → List ℕ
word_bytes word.Sync = bytes "sync"
word_bytes word.Backup = bytes "backup"
word_bytes word.Prospect = bytes "prospect"
word_bytes word.Primary = bytes "primary"
word_bytes word.Idle = bytes "idle"
word_bytes word.Down = bytes "down"
word_bytes word.Beat = bytes "beat"
word_bytes word.Reveal = bytes "reveal"
word_bytes word.Pass = bytes "pass"
word_bytes word.Lower = bytes "lower"
word_bytes word.Cut = bytes "cut"
word_bytes word.Mended = bytes "mended"

-- what an event prints: "Entering prospect prints the role, then the heartbeat; `pass` prints
-- before `backup`." And "the reply follows any `lower` note of the same heartbeat" (document 02,
-- A.2)
abbrev pub said : Event → Said
said Nothing = says.Nothing
said ToBackup = says.One word.Backup
said ToProspectBeat = says.Two word.Prospect word.Beat
said ToProspectReveal = says.Two word.Prospect word.Reveal
said Lower = says.One word.Lower
said LowerBeat = says.Two word.Lower word.Beat
said Beat = says.One word.Beat
said ToPrimary = says.One word.Primary
said ToSync = says.One word.Sync
said ToIdle = says.One word.Idle
said ToDown = says.One word.Down
said (Passed b) = says.Two word.Pass word.Backup
