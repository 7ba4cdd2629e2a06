-- EVERY COPY IS REACHED from the polygon itself: the frame of a position in the copy of h is the value of h times the frame of the position, and it leads
-- there from the start in the copy of the empty word. So words with one value up to sign are reduced to the same word (`one_reduction`).
--
-- In order: frames in copies (`F`), which steps keep up to sign (`frame_moved`); positions that their frames join (`Joins`), along a step
-- (`joins_step`), in one copy (`joins_behind`), over a letter (`joins_letter`), over a word (`joins_word`).
--
-- Why: inside the polygon nothing is written, so all positions of a copy are joined; and each generator is written at some step.
-- Assumes nothing.
use mathlib.Core.Path.{◌≡◌, refl, sym, ◌∙◌, ap, subst}
use mathlib.Core.Logic.{inl}
use mathlib.Core.Bool.{true}
use mathlib.Core.List.{List, [], ◌∷◌}
use Prim.Native.Nat.{ℕ, zero, suc, ◌<◌}
use native.Mathlib.Omega.{arith}
use lib.ListN.{length}
use lib.IntN.{ℤ, pos, negsuc}
use Rattle.matrix.specs.Matrix.{Mat, ◌⊗◌, adj, det, ◌≈◌}
use Rattle.matrix.specs.Words.{Letter, S, Q, letter}
use Rattle.matrix.specs.Action.{Involution, OrderThree}
use Rattle.matrix.proofs.Matrix.{⊗-assoc, ⊗-idl, det_one, ≈-sym, ◌∙≈◌, ≈-left, ≈-right}
use Rattle.matrix.proofs.Action.{at-≈}
use Rattle.symbol.specs.Symbol.{IsSymbol}
use Rattle.symbol.specs.declared.Pairing.{Pairing}
use Rattle.pairing.specs.Generator.{generators}
use Rattle.pairing.specs.Subgroup.{IsLetter, IsWord, value_of}
use Rattle.polygon.specs.Cut.{flip}
use Rattle.polygon.specs.Step.{real, Real, written, start_of}
use Rattle.polygon.specs.Walk.{goes}
use Rattle.polygon.proofs.Framed.{Near, near_refl, near_trans, near_sym, near_step}
use Rattle.polygon.proofs.Flip.{Cutting, cutting, real_corner, real_in}
use Rattle.polygon.proofs.Steps.{step_across, closed}
use Rattle.polygon.proofs.Promise.{silent_Q, promise, made}
use Rattle.polygon.proofs.Near.{Joining, joined}
use Rattle.polygon.proofs.Start.{start_real}
use Rattle.normal_forms.specs.Reduced.{letter_kind}
use Rattle.normal_forms.specs.Reduce.{plain, put, puts}
use Rattle.normal_forms.proofs.Put.{both, fine, puts_fine, plain_negative, put_undo}
use Rattle.normal_forms.proofs.Side.{kinds}
use Rattle.normal_forms.proofs.Writing.{silent_over}
use Rattle.normal_forms.proofs.Value.{value_back, unit_back, puts_value}
use Rattle.normal_forms.proofs.Copy.{InCopy, in_copy, copy_eq, sound, sound_place, moved, copy_s, copy_q, involution, order_three, step_is}

module _ (v : ℕ) (t : List ℤ) (ok : IsSymbol v t) where
  abbrev C : Cutting v t
  C = cutting v t ok

  abbrev gens : List Mat
  gens = generators v t

  abbrev kind_of : ℤ → Pairing
  kind_of = letter_kind v t

  abbrev start : ℕ
  start = start_of v t

  starts : Real v t start
  starts = start_real v t ok C

  -- ---- frames

  abbrev F : InCopy → Mat
  F s = value_back v t ok s.word ⊗ C.frame s.place

  unit : (s : InCopy) → sound v t s ≡ true → det (F s) ≡ pos 1
  unit s g = det_one (value_back v t ok s.word) (C.frame s.place) (unit_back v t ok s.word)
      (C.cut.unit s.place (real_in v t ok s.place (sound_place v t s g)))

  frame_moved : (x : Letter) (s : InCopy) → sound v t s ≡ true → F s ⊗ letter x ≈ F (moved v t x s)
  frame_moved x s g =
      let h = s.word in
      let p = s.place in
      let b = value_back v t ok h in
      let u = value_of gens (written v t x p) in
      let f = C.frame (goes v t x p) in
      inl (⊗-assoc b (C.frame p) (letter x))
      ∙≈ ≈-left b (promise v t ok C x p (sound_place v t s g))
      ∙≈ inl (sym (⊗-assoc b u f))
      ∙≈ ≈-right f (≈-sym (puts_value v t ok (written v t x p) h))

  -- ---- what frames join

  abbrev Joins : InCopy → InCopy → Type 0
  Joins x y = Near (copy_s v t) (copy_q v t) F x y

  abbrev σσ : Involution (copy_s v t)
  σσ = involution v t ok C

  abbrev κκκ : OrderThree (copy_q v t)
  κκκ = order_three v t ok C

  back : (x y : InCopy) → sound v t x ≡ true → sound v t y ≡ true → Joins x y → Joins y x
  back x y a b = near_sym (copy_s v t) (copy_q v t) F σσ κκκ x y (unit x a) (unit y b)

  via : (x y z : InCopy) → sound v t x ≡ true → sound v t y ≡ true → sound v t z ≡ true → Joins x y → Joins y z → Joins x z
  via x y z a b c = near_trans (copy_s v t) (copy_q v t) F σσ κκκ x y z (unit x a) (unit y b) (unit z c)

  joins_step : (l : Letter) (x y : InCopy) → sound v t x ≡ true → moved v t l x ≡ y → Joins x y
  joins_step l x y g e = near_step (copy_s v t) (copy_q v t) F σσ κκκ l x y (unit x g) (step_is v t ok C l x g ∙ e) (frame_moved l x g ∙≈ inl (ap F e))

  -- positions in the copy of h
  module _ (h : List ℤ) (f : fine kind_of h ≡ true) where
    here : (p : ℕ) → Real v t p → sound v t (in_copy h p) ≡ true
    here p r = both f r

    behind : Joining v t (λ (p q : ℕ). Joins (in_copy h p) (in_copy h q))
    behind = record {
      self = λ x r. near_refl (copy_s v t) (copy_q v t) F σσ κκκ (in_copy h x) (unit (in_copy h x) (here x r));
      back = λ x y a b. back (in_copy h x) (in_copy h y) (here x a) (here y b);
      via = λ x y z a b c. via (in_copy h x) (in_copy h y) (in_copy h z) (here x a) (here y b) (here z c);
      over = λ x y a b e.
          let s : Real v t (flip v t x) = ap (real v t) e ∙ b in
          joins_step S (in_copy h x) (in_copy h y) (here x a) (copy_eq (ap (puts kind_of h) (silent_over v t ok C x a s)) (step_across v t ok C x a s ∙ e));
      round = λ x y b e. joins_step Q (in_copy h x) (in_copy h y) (here x (real_corner v t x b)) (copy_eq (ap (puts kind_of h) (silent_Q v t ok C x b)) e);
    }

    joins_behind : (p q : ℕ) → Real v t p → Real v t q → Joins (in_copy h p) (in_copy h q)
    joins_behind = joined v t ok C (λ (p q : ℕ). Joins (in_copy h p) (in_copy h q)) behind

  -- ---- letters and words

  abbrev ahead : List ℤ → InCopy
  ahead h = in_copy h start

  good : (h : List ℤ) → fine kind_of h ≡ true → sound v t (ahead h) ≡ true
  good h f = both f starts

  longer : (w h : List ℤ) → fine kind_of h ≡ true → fine kind_of (puts kind_of h w) ≡ true
  longer w h f = puts_fine kind_of (kinds v t) w h f

  joins_generator : (h : List ℤ) (j : ℕ) → fine kind_of h ≡ true → j < length gens → Joins (ahead h) (ahead (puts kind_of h (pos (suc j) ∷ [])))
  joins_generator h j f b =
      let k = made v t ok C j b in
      let p = k.from in
      let q = goes v t k.by p in
      let rq = closed v t ok C k.by p k.counts in
      let h' = puts kind_of h (pos (suc j) ∷ []) in
      let f' = longer (pos (suc j) ∷ []) h f in
      let e : moved v t k.by (in_copy h p) ≡ in_copy h' q = copy_eq (ap (puts kind_of h) k.writes) refl in
      via (ahead h) (in_copy h p) (ahead h') (good h f) (here h f p k.counts) (good h' f')
      (joins_behind h f start p starts k.counts)
      (via (in_copy h p) (in_copy h' q) (ahead h') (here h f p k.counts) (here h' f' q rq) (good h' f')
      (joins_step k.by (in_copy h p) (in_copy h' q) (here h f p k.counts) e)
      (joins_behind h' f' q start rq starts))

  joins_letter : (h : List ℤ) (z : ℤ) → fine kind_of h ≡ true → IsLetter (length gens) z → Joins (ahead h) (ahead (puts kind_of h (z ∷ [])))
  joins_letter h (pos zero) f b = absurd (omega arith)
  joins_letter h (pos (suc j)) f b = joins_generator h j f (omega arith)
  joins_letter h (negsuc j) f b =
      let k = puts kind_of h (negsuc j ∷ []) in
      let g = longer (negsuc j ∷ []) h f in
      let gone : puts kind_of k (pos (suc j) ∷ []) ≡ h =
      ap (put kind_of (put kind_of h (plain kind_of (negsuc j)))) (plain_negative kind_of (kinds v t) (negsuc j))
      ∙ put_undo kind_of (kinds v t) (plain kind_of (negsuc j)) h f in
      back (ahead k) (ahead h) (good k g) (good h f) (subst (λ (l : List ℤ). Joins (ahead k) (ahead l)) gone (joins_generator k j g (omega arith)))

  joins_word : (w h : List ℤ) → fine kind_of h ≡ true → IsWord (length gens) w → Joins (ahead h) (ahead (puts kind_of h w))
  joins_word [] h f b = near_refl (copy_s v t) (copy_q v t) F σσ κκκ (ahead h) (unit (ahead h) (good h f))
  joins_word (z ∷ w) h f b =
      let k = puts kind_of h (z ∷ []) in
      let g = longer (z ∷ []) h f in
      via (ahead h) (ahead k) (ahead (puts kind_of k w)) (good h f) (good k g) (good (puts kind_of k w) (longer w k g)) (joins_letter h z f b.0)
      (joins_word w k g b.1)

  -- the frame that leads to a reduced word tells its value
  frame_word : (w : List ℤ) → F (ahead (puts kind_of [] w)) ≈ value_of gens w ⊗ C.frame start
  frame_word w = ≈-right (C.frame start) (puts_value v t ok w [] ∙≈ inl (⊗-idl (value_of gens w)))

  pub one_reduction : (u w : List ℤ) → IsWord (length gens) u → IsWord (length gens) w → value_of gens u ≈ value_of gens w → puts kind_of [] u ≡ puts kind_of [] w
  one_reduction u w a b e =
      let o = ahead [] in
      let same : F (ahead (puts kind_of [] u)) ≈ F (ahead (puts kind_of [] w)) =
      frame_word u ∙≈ ≈-right (C.frame start) e ∙≈ ≈-sym (frame_word w) in
      ap (λ (s : InCopy). s.word)
      (sym (joins_word u [] refl a)
      ∙ at-≈ (copy_s v t) (copy_q v t) σσ κκκ o (adj (F o) ⊗ F (ahead (puts kind_of [] u))) (adj (F o) ⊗ F (ahead (puts kind_of [] w))) (≈-left (adj (F o)) same)
      ∙ joins_word w [] refl b)
