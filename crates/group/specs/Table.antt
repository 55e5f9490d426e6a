-- The table of a channel, and the fresh channel.
use Rattle.std.specs.Prelude.{Bool, true, not, ◌&&◌, ◌||◌, List, [], ◌∷◌, map, ℕ, suc, ◌*◌, ltb, leb, eqb, length, replicate}
use Rattle.lists.specs.Choice.{choose}
use Rattle.lists.specs.Lists.{every, index_where}
use Rattle.heartbeat.specs.declared.Rank.{Rank}
use Rattle.server.specs.declared.Server.{Server}
use Rattle.server.specs.Server.{absent, idle}
use Rattle.periods.specs.Period.{take_period}
use Rattle.roles.specs.Roles.{in_role_of}
use Rattle.group.specs.declared.Table.{Table}
use Rattle.group.specs.declared.State.{State}

-- "A channel has 1 to 16 servers."
abbrev pub most : ℕ
most = 16

-- The table of no server; every table is made from it by adding servers (`is_table`, below). "Each
-- has an identity 1..65,535 .. and a priority 0..255.": no greater ones can stand in the struct, by
-- its types
abbrev pub empty : Table
empty = record { servers = replicate most absent }

-- a place with no server has identity 0, which "means nobody"
abbrev pub is_empty : Server → Bool
is_empty s = eqb s.identity 0

-- how many servers there are
abbrev pub counted : List Server → ℕ
counted [] = 0
counted (s ∷ l) = choose (is_empty s) (counted l) (suc (counted l))

-- the server of this identity; "0 means nobody"
abbrev pub named : ℕ → Server → Bool
named i s = not (eqb i 0) && eqb s.identity i

-- the place of an identity; 16 where it is not in the table
unfoldable pub place_in : List Server → ℕ → ℕ
place_in l i = index_where (named i) l

abbrev pub is_in : List Server → ℕ → Bool
is_in l i = ltb (place_in l i) most

-- the new server n stands before s: s is an empty place, or has a greater identity
unfoldable pub stands_before : Server → Server → Bool
stands_before n s = is_empty s || ltb n.identity s.identity

-- into its place by rising identity; the last place falls out
unfoldable pub enter : Server → List Server → List Server
enter n [] = []
enter n (s ∷ l) = choose (stands_before n s) n s ∷ enter (choose (stands_before n s) s n) l

-- ---- the servers of a table

-- a server of a fresh channel: "all servers idle .. nothing sent"; nobody in an empty place
unfoldable pub anew : Server → Server
anew s = choose (is_empty s) absent (idle s.identity s.priority)

-- it is as `anew` has it
unfoldable pub is_new : Server → Bool
is_new s =
    in_role_of s.role (anew s).role && (eqb s.priority (anew s).priority && ((eqb s.silence 0 && (eqb s.beat 0 && eqb s.prospect 0)) &&
    (eqb s.beats 0 && (not s.reveal && eqb s.pass 0))))

-- x may stand after s: x is an empty place, or both have servers, of rising identity
unfoldable pub follows : Server → Server → Bool
follows s x = is_empty x || (not (is_empty s) && ltb s.identity x.identity)

-- so may the first of these
abbrev pub leads : Server → List Server → Bool
leads s [] = true
leads s (x ∷ l) = follows s x

unfoldable pub rises : List Server → Bool
rises [] = true
rises (s ∷ l) = leads s l && rises l

-- Adding makes these servers: sixteen places, in rising identity, empty ones last, each as it was
-- added. (That it makes these and no others is the law `AddingMakes`.)
unfoldable pub is_table : List Server → Bool
is_table l = eqb (length l) most && (every is_new l && rises l)

-- the table of these servers, where adding makes them; else that of no server
unfoldable pub table_with : List Server → Table
table_with l = choose (is_table l) (record { servers = l }) empty

-- ---- a server added

-- 2 for identity 0, and for servers that adding does not make, which no caller can hold in a Table.
-- "5. Identity already in the table." "6. A seventeenth server"
unfoldable pub add_refusal : Table → ℕ → ℕ
add_refusal t i =
    choose (is_table t.servers && not (eqb i 0)) (choose (is_in t.servers i) 5 (choose (leb most (counted t.servers)) 6 0)) 2

-- the table after a server is added, idle and with nothing sent (`idle`); the same where it is
-- refused
unfoldable pub added : Table → ℕ → ℕ → Table
added t i p = choose (eqb (add_refusal t i) 0) (record { servers = enter (idle i p) t.servers }) t

-- servers added one after the other, in any order. One that is refused leaves the table as it was
unfoldable pub with_servers : Table → List Rank → Table
with_servers t [] = t
with_servers t (r ∷ rs) = with_servers (added t r.identity r.priority) rs

-- every table is one of these; the order of its servers is the law `TablesInOrder`
abbrev pub table_of : List Rank → Table
table_of rs = with_servers empty rs

-- ---- the fresh channel

-- "2. A number .. out of range.", and servers that adding does not make. "6. .. no server" "7. P
-- below the number of servers"
unfoldable pub fresh_refusal : Table → ℕ → ℕ
fresh_refusal t n =
    choose (is_table t.servers && eqb (take_period n).number 0)
    (choose (eqb (counted t.servers) 0) 6 (choose (ltb n (counted t.servers)) 7 0))
    2

-- "A fresh channel is at frame 0, all servers idle, all links whole, nothing sent."
abbrev pub fresh : Table → ℕ → State
fresh t n = record { frame = 0; period = record { frames = n }; servers = map anew t.servers; whole = replicate (most * most) true }
