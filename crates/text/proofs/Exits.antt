-- What the exit of a `?` returns, where the error is handed on as it is, and what `map_err` hands to one.
--     handed_out              the error itself
--     mapped_ok, mapped_err   what was mapped, by what came of it
-- Assumes nothing.
use Rattle.std.specs.Prelude.{Result, Ok, Err}
use Rattle.std.specs.Result.{IsErrAnd, MatchResult}
use mathlib.Core.Path.{◌≡◌, refl, sym, ap, ◌∙◌}
use Rattle.text.proofs.Clash.{clash}

pub handed_out : {T E : Type 0} (r : Result T E) {e : E} → IsErrAnd r (λ y. y ≡ e) → r ≡ Err e
handed_out (Ok x) h = absurd h
handed_out (Err y) h = ap Err h

module _ {T E D : Type 0} (P : E → D → Type 0) where
  pub mapped_ok : (r : Result T E) (s : Result T D) → MatchResult r (λ x. s ≡ Ok x) (λ e. IsErrAnd s (P e)) → (x : T) → s ≡ Ok x
      → r ≡ Ok x
  mapped_ok (Ok y) s h x e = let f : Ok y ≡ Ok x = sym h ∙ e in cc
  mapped_ok (Err e) (Ok y) h x f = absurd h
  mapped_ok (Err e) (Err d) h x f = clash (cc)

module _ {T E D : Type 0} {P : E → D → Type 0} where
  pub mapped_err : (f : E → D) (r : Result T E) (s : Result T D) → MatchResult r (λ x. s ≡ Ok x) (λ e. IsErrAnd s (P e))
      → ((e : E) (d : D) → P e d → d ≡ f e) → (d : D) → s ≡ Err d → (e : E) × (r ≡ Err e) × (d ≡ f e)
  mapped_err f (Ok y) s h g d e = let q : Ok y ≡ Err d = sym h ∙ e in clash (cc)
  mapped_err f (Err e) (Ok y) h g d q = absurd h
  mapped_err f (Err e) (Err c) h g d q = let same : c ≡ d = cc in (e, refl, sym same ∙ g e c h)
