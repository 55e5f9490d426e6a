-- What private functions answer. Nothing is promised here.
use Rattle.std.specs.Prelude.{Bool, true, false, not, ◌⊎◌, ◌≡◌, List, [], ◌++◌, ℕ, zero, suc, ◌+◌, ◌-◌, ◌*◌, ◌<◌, ◌≤◌, leb, eqb, length, get_or}
use Rattle.lists.specs.Choice.{choose}
use Rattle.roles.specs.declared.Role.TheVariants.{Backup, Primary}
use Rattle.periods.specs.declared.Period.{Period}
use Rattle.server.specs.declared.Server.{Server}
use Rattle.roles.specs.declared.Said.TheVariants.{One}
use Rattle.roles.specs.declared.Word.TheVariants.{Beat}
use Rattle.server.specs.Server.{absent, set_silence, set_beat, sent_any}
use Rattle.periods.specs.Period.{silence_limit, beat_limit}
use Rattle.lines.specs.Lines.{lines_of}
use Rattle.group.specs.declared.State.{State}
use Rattle.group.specs.Table.{most}
use Rattle.group.specs.Hearing.{link_of}
use Rattle.group.specs.Frame.{moved_to, frame_lines}
use Rattle.group.specs.Advance.{advanced_by, lines_by, frames_within}
use Rattle.places.specs.Words.{Keeps}
use Rattle.places.specs.Roles.{is_backup, is_still}
use Rattle.frame.specs.Answers.{state_of}
use Rattle.frame.specs.Steps.{Out, NotDue}
use Rattle.frames.specs.declared.Stretched.{Stretched}
use Rattle.frames.specs.declared.Pulse.{Pulse}

-- ---- quiet frames

-- r is a frame from t to the target, and either t or before f
pub record Before (f t target r : ℕ) : Type 0 where
  pub from : t ≤ r
  pub to : r ≤ target
  pub early : (r ≡ t) ⊎ (r < f)

-- ---- many frames

-- the servers in a later frame, and the place after the lines that led there
pub record Stepped : Type 0 where
  pub servers : List Server
  pub frame : ℕ
  pub at : ℕ

-- n frames after c
pub record Steps (wet : Bool) (n : ℕ) (c : State) (d : List ℕ) (at : ℕ) (r : Stepped) (d' : List ℕ) : Type 0 where
  pub channel : moved_to c r.frame r.servers ≡ advanced_by n c
  pub out : Out wet d at (lines_by n c) r.at d'

-- r is a frame from t to the target, later than t only where nobody sent, and up to it nothing
-- happens, whatever the links
pub record Jumps (p : Period) (l : List Server) (t target r : ℕ) : Type 0 where
  pub from : t ≤ r
  pub to : r ≤ target
  pub same : (w : List Bool) → advanced_by (r - t) (state_of t p l w) ≡ state_of r p l w
  pub silent : (w : List Bool) → lines_by (r - t) (state_of t p l w) ≡ []

-- some frames more, up to the target
pub record Goes (wet : Bool) (c : State) (target : ℕ) (d : List ℕ) (at : ℕ) (r : Stepped) (d' : List ℕ) : Type 0 where
  pub count : ℕ
  pub some : 0 < count
  pub within : c.frame + count ≤ target
  pub steps : Steps wet count c d at r d'

-- the numbers w of frame t become w' in frame t', which is not earlier; in the same frame they are
-- the same
pub record Moves (w w' : List ℕ) (t t' : ℕ) : Type 0 where
  pub keeps : Keeps w w'
  pub later : t ≤ t'
  pub same : t' ≡ t → w' ≡ w

-- ---- a calm group: one primary beats, and every other server hears it, or neither hears nor has a
-- timer

-- place i after a beat of place b in frame f, which was heard in the next
abbrev pub pulsed : ℕ → ℕ → ℕ → Server → Server
pulsed b f i s = choose (eqb i b) (set_beat f s) (choose (is_backup s.role) (set_silence (f + 1) s) s)

-- the backup s at place i hears place b, and its timer is not due after the frame t and up to f
pub record Listens (p : Period) (w : List Bool) (b i t f : ℕ) (s : Server) : Type 0 where
  pub role : s.role ≡ Backup
  pub link : get_or w (link_of b i) false ≡ true
  pub waits : NotDue s.silence (silence_limit p) t (f + 1)

-- nobody sent in frame t, and what happens next is the beat of place b in frame f
pub record Calm (p : Period) (w : List Bool) (l : List Server) (b t f : ℕ) : Type 0 where
  pub place : b < most
  pub primary : (get_or l b absent).role ≡ Primary
  pub next : (get_or l b absent).beat + beat_limit p ≡ f
  pub ahead : t < f
  pub long : 1 < beat_limit p
  pub unsent : (i : ℕ) → i < most → sent_any (get_or l i absent) ≡ false
  pub others : (i : ℕ) → i < most → (i ≡ b → ⊥) → (is_still (get_or l i absent) ≡ true) ⊎ Listens p w b i t f (get_or l i absent)

-- a server that does nothing until a verb, or a backup that hears and whose timer is not due after
-- the frame t and up to f
abbrev pub Waits : Period → Bool → ℕ → ℕ → Server → Type 0
Waits p link t f s = (is_still s ≡ true) ⊎ ((s.role ≡ Backup) × ((link ≡ true) × NotDue s.silence (silence_limit p) t (f + 1)))

-- so is every place below n but b, which it hears
abbrev pub AllWait : List Server → List Bool → Period → ℕ → ℕ → ℕ → ℕ → Type 0
AllWait l w p b t f n = (i : ℕ) → i < n → (i ≡ b → ⊥) → Waits p (get_or w (link_of b i) false) t f (get_or l i absent)

-- the lines of n beats of identity i from the frame f on, p frames apart
abbrev pub beat_lines : ℕ → ℕ → ℕ → ℕ → List ℕ
beat_lines f p i zero = []
beat_lines f p i (suc n) = lines_of f i (One Beat) ++ beat_lines (f + p) p i n

-- beats before the target, whose lines fit
pub record Beats (f p target i : ℕ) (d : List ℕ) (at : ℕ) (r : Pulse) (d' : List ℕ) : Type 0 where
  pub count : ℕ
  pub next : r.next ≡ f + count * p
  pub before : (n : ℕ) → count ≡ suc n → f + n * p < target
  pub kept : length d' ≡ length d
  pub fits : at + length (beat_lines f p i count) ≤ length d
  pub out : Out true d at (beat_lines f p i count) r.at d'

-- ---- as many frames as fit

-- the frame after c, where its lines fit
pub record Fares (c : State) (d : List ℕ) (at : ℕ) (l : List Server) (r : Stretched) (d' : List ℕ) : Type 0 where
  pub full : r.full ≡ not (leb (at + length (frame_lines c)) (length d))
  pub steps : Steps true (choose r.full 0 1) c d at (record { servers = l; frame = r.frame; at = r.at }) d'

-- k frames after c, up to the target, whose lines fit; then the next one's do not, or more may
pub record Stretches (c : State) (target : ℕ) (d : List ℕ) (at : ℕ) (l : List Server) (r : Stretched) (d' : List ℕ) : Type 0 where
  pub count : ℕ
  pub within : c.frame + count ≤ target
  pub fits : at + length (lines_by count c) ≤ length d
  pub steps : Steps true count c d at (record { servers = l; frame = r.frame; at = r.at }) d'
  pub some : r.full ≡ false → 0 < count
  pub stop : r.full ≡ true → (c.frame + count < target) × (length d < at + length (lines_by count c) + length (frame_lines (advanced_by count c)))

-- as many frames as fit
pub record MovesWithin (c : State) (target : ℕ) (d : List ℕ) (r : Stepped) (d' : List ℕ) : Type 0 where
  pub channel : moved_to c r.frame r.servers ≡ advanced_by (frames_within c target (length d)) c
  pub fits : length (lines_by (frames_within c target (length d)) c) ≤ length d
  pub out : Out true d 0 (lines_by (frames_within c target (length d)) c) r.at d'
