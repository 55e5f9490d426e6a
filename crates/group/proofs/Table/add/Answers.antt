use mathlib.Core.Bool.{Bool, not, ◌&&◌}
use mathlib.Core.Path.{sym, ap, ◌∙◌}
use Prim.Native.Nat.{◌<◌, ◌≤◌}
use native.Mathlib.Omega.{arith}
use lib.Dec.{eqb}
use Rattle.lists.proofs.Cases.{other}
use Rattle.refusal.specs.declared.Refusal.TheVariants.{Number, Taken, Servers}
use Rattle.group.specs.Table.{most, counted, place_in}
use Rattle.group.proofs.Opening.{adds-not, adds, not_to_add, has-identity, is-taken, is-full, is-new}
use Rattle.group.proofs.Table.add.Goals as goal

pub returns-then-not-is_table-identity : goal.returns-then-not-is_table-identity
returns-then-not-is_table-identity c =
    let a = c.args in
    let no = ap (λ (t : Bool). t && not (eqb a.identity 0)) (sym c.is_table.ensures) ∙ c.if-not-is_table-identity.true in
    adds-not a.self a.identity a.priority Number (not_to_add a.self a.identity a.priority no) c.refused.ensures

pub returns-then-place_in-lt-SERVERS : goal.returns-then-place_in-lt-SERVERS
returns-then-place_in-lt-SERVERS c =
    let a = c.args in
    let may = ap (λ (t : Bool). t && not (eqb a.identity 0)) (sym c.is_table.ensures) ∙ c.if-not-is_table-identity.false in
    let h : place_in a.self.servers a.identity < most = omega (arith, c.place_in.ensures, c.if-place_in-lt-SERVERS.true) in
    adds-not a.self a.identity a.priority Taken (is-taken a.self a.identity a.priority may h) c.refused-then-place_in-lt-SERVERS.ensures

pub returns-then-count-ge-SERVERS : goal.returns-then-count-ge-SERVERS
returns-then-count-ge-SERVERS c =
    let a = c.args in
    let may = ap (λ (t : Bool). t && not (eqb a.identity 0)) (sym c.is_table.ensures) ∙ c.if-not-is_table-identity.false in
    let h : most ≤ place_in a.self.servers a.identity = omega (arith, c.place_in.ensures, c.if-place_in-lt-SERVERS.false) in
    let g : most ≤ counted a.self.servers = omega (arith, c.count.ensures, c.if-count-ge-SERVERS.true) in
    adds-not a.self a.identity a.priority Servers (is-full a.self a.identity a.priority may h g) c.refused-then-count-ge-SERVERS.ensures

pub returns : goal.returns
returns c =
    let a = c.args in
    let may = ap (λ (t : Bool). t && not (eqb a.identity 0)) (sym c.is_table.ensures) ∙ c.if-not-is_table-identity.false in
    let h : most ≤ place_in a.self.servers a.identity = omega (arith, c.place_in.ensures, c.if-place_in-lt-SERVERS.false) in
    let g : counted a.self.servers < most = omega (arith, c.count.ensures, c.if-count-ge-SERVERS.false) in
    adds a.self a.identity a.priority (is-new a.self a.identity a.priority may h g)
    (c.new-made.ensures.server ∙ other _ (has-identity a.self a.identity a.priority may)) c.with.ensures
