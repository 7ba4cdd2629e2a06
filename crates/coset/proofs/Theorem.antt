-- THE THEOREM on the coset tables: `cosets_are`, for every accepted symbol.
--
-- In order: the maps (`maps`, S and R undone by themselves); Q from S and R; the numbered positions are the real ones (`listed_real`,
-- `size_is`); a word followed in the tables is the number of where it leads (`run_is`, `leads_is`); S twice and R three times (`S_twice`, `R_thrice`);
-- the points are the right cosets of H, and point 0 is H (`one_coset`, `home`); the numbering of the tables (`in_order_is`); the theorem.
-- Assumes nothing.
use mathlib.Core.Path.{◌≡◌, refl, sym, ◌∙◌, ap}
use mathlib.Core.Logic.{inl, inr, ◌↔◌}
use mathlib.Core.Bool.{Bool, true, false, ◌||◌}
use mathlib.Core.List.{List, [], ◌∷◌}
use Prim.Native.Nat.{ℕ, ◌-◌, ◌<◌}
use native.Mathlib.Omega.{arith}
use lib.Dec.{ltb}
use lib.ListN.{length, get_or}
use lib.IntN.{ℤ, pos}
use Rattle.matrix.specs.Matrix.{Mat, ◌⊗◌, 𝟙, adj, det, mat_s, mat_p, mat_r, mat_t}
use Rattle.matrix.specs.Words.{Letter, S, Q, P, value}
use Rattle.matrix.specs.Euclid.{word_of}
use Rattle.matrix.specs.Action as action
use Rattle.matrix.specs.Theorems.{Acts}
use Rattle.matrix.proofs.Matrix.{T_is, R_is, ⊗-idr, det_𝟙, det_letter}
use Rattle.matrix.proofs.Action.{acts}
use Rattle.matrix.proofs.Sign.{det_value}
use Rattle.pairing.specs.Generator.{generators}
use Rattle.pairing.specs.Subgroup.{InH}
use Rattle.basics.proofs.Choice.{either, clash}
use Rattle.polygon.specs.Cut.{corners, places}
use Rattle.polygon.specs.Step.{odd_at, real, Real, step_s, turn_q, turned, start_of, origin_of}
use Rattle.polygon.specs.Walk.{goes, ends, arrives}
use Rattle.polygon.specs.Theorem.{Polygon}
use Rattle.polygon.proofs.OneCoset.{from_coset, to_coset}
use Rattle.numbering.specs.Find.{find, ◌∈◌}
use Rattle.numbering.specs.Order.{order_of, up_to, Maps, Reached, here, by_σ, by_ρ, Numbering}
use Rattle.numbering.specs.Table.{image_at, ◌then_table◌, Injective, Renaming, Permutations}
use Rattle.numbering.proofs.Find.{get_d_find, get_d_in}
use Rattle.numbering.proofs.Order.{numbering}
use Rattle.numbering.proofs.Table.{undone, renaming, permutations, then_at, natural_then, natural_fixed}
use Rattle.basics.proofs.Count.{length_those}
use Rattle.numbering.proofs.Filled.{order_count}
use Rattle.numbering.proofs.Numbered.{numbered}
use Rattle.coset.specs.Tables.{step_r, cosets, table_s, table_r, table_t, index_of}
use Rattle.right_cosets.specs.Leads.{by_table_q, leads, IsReached}
use Rattle.right_cosets.specs.Cosets.{CosetsOf}
use Rattle.right_cosets.proofs.Place.{adj_𝟙}
use Rattle.coset.specs.Theorem.{Cosets}

module _ (v : ℕ) (t : List ℤ) (g : Polygon v t) where
  abbrev σ : ℕ → ℕ
  σ = step_s v t

  abbrev κ : ℕ → ℕ
  κ = turn_q v

  abbrev ρ : ℕ → ℕ
  ρ = step_r v t

  abbrev origin : ℕ
  origin = origin_of v t

  -- ---- R by S and Q, and Q by S and R

  pub ρ_is : (x : ℕ) → ρ x ≡ σ (κ (κ (σ x)))
  unfolding step_r
  ρ_is x = refl

  κ_is : (x : ℕ) → σ (ρ (ρ (σ x))) ≡ κ x
  κ_is x = cc (ρ_is (σ x), ρ_is (ρ (σ x)), g.involution x, g.involution (κ (κ x)), g.involution (κ (κ (κ (κ x)))), g.order_three x)

  pub ρ_three : (x : ℕ) → ρ (ρ (ρ x)) ≡ x
  ρ_three x = cc (
    ρ_is x,
    ρ_is (ρ x),
    ρ_is (ρ (ρ x)),
    g.involution (κ (κ (σ x))),
    g.involution (κ (κ (κ (κ (σ x))))),
    g.order_three (σ x),
    g.order_three
        (κ (κ (κ (σ x)))),
    g.involution x,
  )

  τ_is : (x : ℕ) → ρ (σ x) ≡ σ (κ (κ x))
  τ_is x = cc (ρ_is (σ x), g.involution x)

  -- ---- real positions

  ρ_real : (x : ℕ) → Real v t x → Real v t (ρ x)
  ρ_real x h = rw (ρ_is x) (g.closed S (κ (κ (σ x))) (g.closed P (σ x) (g.closed S x h)))

  pub listed_real : (x : ℕ) → Reached σ ρ origin x → Real v t x
  listed_real _ here = g.walks.origin
  listed_real _ (by_σ {x} r) = g.closed S x (listed_real x r)
  listed_real _ (by_ρ {x} r) = ρ_real x (listed_real x r)

  -- past the real positions nothing moves
  σ_still : (x : ℕ) → real v t x ≡ false → σ x ≡ x
  unfolding step_s
  σ_still x e = rw e

  κ_still : (x : ℕ) → real v t x ≡ false → κ x ≡ x
  unfolding turn_q real
  κ_still x e = elim (either (ltb x (corners v))) [
    | inl b ↦ clash (ap (λ (c : Bool). c || odd_at v t (x - corners v)) b) e
    | inr b ↦ rw b
  ]

  ρ_still : (x : ℕ) → real v t x ≡ false → ρ x ≡ x
  ρ_still x e = cc (ρ_is x, σ_still x e, κ_still x e)

  pub maps : Maps σ ρ origin (places v)
  maps = record {
    start_low = g.within origin g.walks.origin;
    σ_low = λ x h. elim (either (real v t x)) [ inl e ↦ g.within (σ x) (g.closed S x e) | inr e ↦ rw (σ_still x e) h ];
    ρ_low = λ x h. elim (either (real v t x)) [ inl e ↦ g.within (ρ x) (ρ_real x e) | inr e ↦ rw (ρ_still x e) h ];
  }

  pub numbers : Numbering σ ρ origin (places v) (cosets v t)
  unfolding cosets
  numbers = numbering σ ρ origin (places v) maps

  -- ---- the numbered positions are the real ones

  reached_at : (x y : ℕ) → x ≡ y → Reached σ ρ origin x → Reached σ ρ origin y
  reached_at x y e r = rw (sym e) r

  by_κ : (x : ℕ) → Reached σ ρ origin x → Reached σ ρ origin (κ x)
  by_κ x r = reached_at (σ (ρ (ρ (σ x)))) (κ x) (κ_is x) (by_σ (by_ρ (by_ρ (by_σ r))))

  turned_back : turned v t ≡ true → σ origin ≡ start_of v t
  unfolding origin_of
  turned_back e = rw e (g.involution (start_of v t))

  not_turned : turned v t ≡ false → origin ≡ start_of v t
  unfolding origin_of
  not_turned e = rw e

  start_reached : Reached σ ρ origin (start_of v t)
  start_reached = elim (either (turned v t)) [
    | inl e ↦ reached_at (σ origin) (start_of v t) (turned_back e) (by_σ here)
    | inr e ↦ reached_at origin (start_of v t) (not_turned e) here
  ]

  word_reached : (l : List Letter) (x : ℕ) → Reached σ ρ origin x → Reached σ ρ origin (ends v t x l)
  word_reached [] x r = r
  word_reached (S ∷ l) x r = word_reached l (σ x) (by_σ r)
  word_reached (Q ∷ l) x r = word_reached l (κ x) (by_κ x r)
  word_reached (P ∷ l) x r = word_reached l (κ (κ x)) (by_κ (κ x) (by_κ x r))

  real_reached : (x : ℕ) → Real v t x → Reached σ ρ origin x
  real_reached x h = let a = g.reached x h in reached_at (ends v t (start_of v t) a.word) x a.is (word_reached a.word (start_of v t) start_reached)

  pub size_is : length (cosets v t) ≡ index_of v t
  unfolding cosets
  size_is = order_count maps (real v t) listed_real (λ x h e. real_reached x e) ∙ length_those (real v t) (places v) ∙ g.index

  -- ---- words in the tables

  pub member : (x : ℕ) → Real v t x → x ∈ cosets v t
  member x h = numbers.all x (real_reached x h)

  abbrev s : List ℕ
  s = table_s v t

  abbrev r : List ℕ
  r = table_r v t

  abbrev u : List ℕ
  u = table_t v t

  abbrev number : ℕ → ℕ
  number x = find (cosets v t) x

  pub names : Renaming σ ρ (cosets v t) s r u
  unfolding cosets table_s table_r table_t
  names = renaming σ ρ origin (places v) maps

  q_is : (x : ℕ) → Real v t x → by_table_q s r (number x) ≡ number (κ x)
  q_is x h =
      let a = g.closed S x h in
      let b = ρ_real (σ x) a in
      let c = ρ_real (ρ (σ x)) b in
      cc (
        names.S.step x (member x h),
        names.R.step (σ x) (member (σ x) a),
        names.R.step (ρ (σ x)) (member (ρ (σ x)) b),
        names.S.step (ρ (ρ (σ x)))
            (member (ρ (ρ (σ x))) c),
        κ_is x,
      )

  step_is : (y : Letter) (x : ℕ) → Real v t x → action.step (image_at s) (by_table_q s r) y (number x) ≡ number (goes v t y x)
  step_is S x h = names.S.step x (member x h)
  step_is Q x h = q_is x h
  step_is P x h = cc (q_is x h, q_is (κ x) (g.closed Q x h))

  run_is : (l : List Letter) (x : ℕ) → Real v t x → action.run (image_at s) (by_table_q s r) (number x) l ≡ number (ends v t x l)
  run_is [] x h = refl
  run_is (y ∷ l) x h = ap (λ (z : ℕ). action.run (image_at s) (by_table_q s r) z l) (step_is y x h) ∙ run_is l (goes v t y x) (g.closed y x h)

  zero_is : number origin ≡ 0
  zero_is = ap number (sym numbers.first) ∙ numbers.once.place 0 numbers.some

  arrives_real : (m : Mat) → Real v t (arrives v t origin m)
  unfolding action.at
  arrives_real m = g.walks.walk_real (word_of m) origin g.walks.origin

  leads_is : (m : Mat) → leads s r m ≡ number (arrives v t origin m)
  unfolding action.at
  leads_is m = ap (λ (z : ℕ). action.run (image_at s) (by_table_q s r) z (word_of m)) (sym zero_is) ∙ run_is (word_of m) origin g.walks.origin

  -- positions with one number are one position
  number_one : (x y : ℕ) → Real v t x → Real v t y → number x ≡ number y → x ≡ y
  number_one x y h k e = sym (get_d_find (cosets v t) x (member x h)) ∙ ap (λ (j : ℕ). get_or (cosets v t) j 0) e ∙ get_d_find (cosets v t) y (member y k)

  -- ---- multiplication on the right

  a : Acts σ κ
  a = acts σ κ g.involution g.order_three

  R_word : mat_r ≡ value (S ∷ P ∷ S ∷ [])
  R_word = R_is ∙ ap (λ (m : Mat). mat_s ⊗ (mat_p ⊗ m)) (sym (⊗-idr mat_s))

  T_word : mat_t ≡ value (P ∷ S ∷ [])
  T_word = T_is ∙ ap (λ (m : Mat). mat_p ⊗ m) (sym (⊗-idr mat_s))

  -- a matrix more
  arrives_more : (m n : Mat) → det m ≡ pos 1 → det n ≡ pos 1 → arrives v t origin (m ⊗ n) ≡ arrives v t (arrives v t origin m) n
  arrives_more m n d e = a.product origin m n d e

  word_more : (m : Mat) (l : List Letter) → det m ≡ pos 1 → arrives v t origin (m ⊗ value l) ≡ ends v t (arrives v t origin m) l
  word_more m l d = arrives_more m (value l) d (det_value l) ∙ a.words (arrives v t origin m) l

  module _ (m : Mat) (d : det m ≡ pos 1) where
    abbrev x : ℕ
    x = arrives v t origin m

    h : Real v t x
    h = arrives_real m

    S_step : leads s r (m ⊗ mat_s) ≡ image_at s (leads s r m)
    S_step = leads_is (m ⊗ mat_s) ∙ ap number (arrives_more m mat_s d (det_letter S) ∙ a.by_S x) ∙ sym (names.S.step x (member x h))
        ∙ ap (image_at s) (sym (leads_is m))

    R_step : leads s r (m ⊗ mat_r) ≡ image_at r (leads s r m)
    R_step =
        leads_is (m ⊗ mat_r) ∙ ap number (ap (λ (n : Mat). arrives v t origin (m ⊗ n)) R_word ∙ word_more m (S ∷ P ∷ S ∷ []) d ∙ sym (ρ_is x))
        ∙ sym (names.R.step x (member x h)) ∙ ap (image_at r) (sym (leads_is m))

    T_step : leads s r (m ⊗ mat_t) ≡ image_at u (leads s r m)
    T_step =
        leads_is (m ⊗ mat_t) ∙ ap number (ap (λ (n : Mat). arrives v t origin (m ⊗ n)) T_word ∙ word_more m (P ∷ S ∷ []) d ∙ sym (τ_is x))
        ∙ sym (names.T.step x (member x h)) ∙ ap (image_at u) (sym (leads_is m))

  -- ---- the theorem

  pub injective_S : Injective (order_of σ ρ origin (places v)) σ
  injective_S = undone (order_of σ ρ origin (places v)) σ σ (λ x h. g.involution x)

  pub injective_R : Injective (order_of σ ρ origin (places v)) ρ
  injective_R = undone (order_of σ ρ origin (places v)) ρ (λ x. ρ (ρ x)) (λ x h. ρ_three x)

  permuted : Permutations s r u
  unfolding cosets table_s table_r table_t
  permuted = permutations σ ρ origin (places v) maps injective_S injective_R

  -- S twice and R three times lead from a position back to it, and so from its number to itself
  S_twice : (j : ℕ) → j < length (cosets v t) → image_at s (image_at s j) ≡ j
  S_twice j h =
      let S = names.S in
      sym (then_at s s j (omega (arith, S.long))) ∙ natural_fixed numbers.once (natural_then S S) j h (g.involution (get_or (cosets v t) j 0))

  R_thrice : (j : ℕ) → j < length (cosets v t) → image_at r (image_at r (image_at r j)) ≡ j
  R_thrice j h =
      let R = names.R in
      let rr = r then_table r in
      let RR = natural_then R R in
      ap (image_at r) (sym (then_at r r j (omega (arith, R.long)))) ∙ sym (then_at rr r j (omega (arith, RR.long)))
      ∙ natural_fixed numbers.once (natural_then RR R) j h (ρ_three (get_or (cosets v t) j 0))

  zero_leads : leads s r 𝟙 ≡ 0
  zero_leads = leads_is 𝟙 ∙ ap number (a.identity origin) ∙ zero_is

  one_coset : (m n : Mat) → det m ≡ pos 1 → det n ≡ pos 1 → (leads s r m ≡ leads s r n) ↔ InH (generators v t) (m ⊗ adj n)
  one_coset m n d e =
      let c = g.cosets n m e d in (
        (λ z. from_coset (generators v t) n m e (c.0
            (number_one (arrives v t origin n) (arrives v t origin m) (arrives_real n) (arrives_real m) (sym (leads_is n) ∙ sym z ∙ leads_is m)))),
        (λ k. leads_is m ∙ ap number (sym (c.1 (to_coset (generators v t) n m e k))) ∙ sym (leads_is n)),
      )

  home : (m : Mat) → det m ≡ pos 1 → (leads s r m ≡ 0) ↔ InH (generators v t) m
  home m d =
      let c = one_coset m 𝟙 d det_𝟙 in
      (λ h. rw (adj_𝟙 m) at (c.0 (h ∙ sym zero_leads)), λ h. c.1 (rw (adj_𝟙 m) h) ∙ zero_leads)

  all_led : (j : ℕ) → j < length (cosets v t) → IsReached s r j
  all_led j h =
      let p = get_or (cosets v t) j 0 in
      let k = listed_real p (numbers.only p (get_d_in (cosets v t) j h)) in
      record {
        matrix = g.frame p;
        unit = g.cut.unit p (g.within p k);
        is = leads_is (g.frame p) ∙ ap number (g.walks.by_frame p k)
            ∙ numbers.once.place j h;
      }

  in_order_is : order_of (image_at s) (image_at r) 0 (index_of v t) ≡ up_to (index_of v t)
  unfolding cosets table_s table_r
  in_order_is = rw (sym size_is) (numbered σ ρ origin (places v) maps)

  of_H : CosetsOf (InH (generators v t)) (index_of v t) s r
  of_H = record {
    size_S = names.S.long ∙ size_is;
    size_R = names.R.long ∙ size_is;
    permutes_S = permuted.S;
    permutes_R = permuted.R;
    twice = λ j h. S_twice j (omega (arith, size_is));
    thrice = λ j h. R_thrice j (omega (arith, size_is));
    low = λ m d. rw (leads_is m) (omega (arith, size_is, member (arrives v t origin m) (arrives_real m)));
    by_S = S_step;
    by_R = R_step;
    fixes = home;
    cosets = one_coset;
    reached = λ j h. all_led j (omega (arith, size_is));
    numbered = in_order_is;
  }

pub cosets_are : (v : ℕ) (t : List ℤ) → Polygon v t → Cosets v t (table_s v t) (table_r v t) (table_t v t)
cosets_are v t g = record {
  of_H = of_H v t g;
  size_T = (names v t g).T.long ∙ size_is v t g;
  permutes_T = (permuted v t g).T;
  by_T = T_step v t g;
  T_is = (names v t g).T_is;
}
