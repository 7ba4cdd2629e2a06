-- `numbering::visit_at` meets its contract: two points are entered in a row, the S image first.
-- Assumes nothing.
use native.Mathlib.Omega.{arith}
use Rattle.numbering.specs.Inner.Space.{SIGMA, RHO}
use Rattle.numbering.proofs.Listing.{marked_then, visit_image, visit_σ_low, visit_ρ_low}
use Rattle.numbering.proofs.visit_at.Goals as goal

pub enter-k-requires : goal.enter-k-requires
enter-k-requires c =
    let pre = c.requires in
    let wide = c.from-x in
    let wide2 = c.from-s in
    let wide3 = c.from-r in
    record { sparse = pre.sparse; x_lt_size = omega (arith, visit_σ_low pre wide.ensures wide2.ensures, visit_ρ_low pre wide.ensures wide3.ensures) }

pub enter-requires : goal.enter-requires
enter-requires c =
    let pre = c.requires in
    let wide = c.from-x in
    let wide2 = c.from-s in
    let wide3 = c.from-r in
    let enter = c.enter-k in
    record { sparse = enter.ensures.sparse; x_lt_size = omega (arith, visit_σ_low pre wide.ensures wide2.ensures, visit_ρ_low pre wide.ensures wide3.ensures) }

pub returns : goal.returns
returns c =
    let pre = c.requires in
    let wide = c.from-x in
    let wide2 = c.from-s in
    let wide3 = c.from-r in
    let enter = c.enter-k in
    let enter2 = c.enter in
    rw (← visit_image pre SIGMA wide.ensures wide2.ensures, ← visit_image pre RHO wide.ensures wide3.ensures)
    (marked_then wide3.result enter.ensures enter2.ensures)
