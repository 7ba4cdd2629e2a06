-- The two small groups: the vertex 0/1 with the pairings -2 -3, where S and T fix point 0, and with -3 -3, where Q and S Q S⁻¹ do.
--
-- In order: both tables are symbols (`small_symbol`) and their generators computed; what fixes 0 in terms of points (`S_point`, `T_point`,
-- `Q_point`, `conjugate_point`); `precisely_1`, where the identity is the only known frame, and `precisely_2`, where S is known too.
-- Assumes nothing.
use mathlib.Core.Path.{◌≡◌, refl, sym, ◌∙◌, ap}
use mathlib.Core.Logic.{◌⊎◌, inl, inr, ◌↔◌}
use mathlib.Core.List.{List, [], ◌∷◌}
use Prim.Native.Nat.{ℕ, zero, suc, ◌+◌, ◌*◌, ◌<◌, ◌≤◌}
use native.Mathlib.Omega.{arith}
use lib.Dec.{lit≤}
use lib.ListN.{length, get_or}
use lib.IntN.{ℤ, pos, negsuc, nat_abs}
use Rattle.matrix.specs.Matrix.{Mat, mat, ◌⊗◌, 𝟙, neg, adj, det, mat_s, mat_t, mat_q, mat_p, ◌≈◌}
use Rattle.matrix.specs.Words as word
use Rattle.matrix.specs.Action.{at}
use Rattle.matrix.proofs.Matrix.{⊗-assoc, ⊗-idl, ⊗-idr, S_S, T_is, ≈-sym, ◌∙≈◌, ≈-left, ≈-right}
use Rattle.symbol.specs.Table.{pairing_entry, side_at, frame, numer, denom, carried}
use Rattle.symbol.specs.Symbol.{ZeroAt, FreeLabel, IsSymbol}
use Rattle.pairing.specs.Generator.{generators}
use Rattle.pairing.specs.Subgroup.{InH}
use Rattle.import_rule.specs.Theorem.{Precisely}
use Rattle.import_rule.proofs.Lead.{Turning, Leads, leads-≈, leads_to, leads_𝟙, leads_step, leads_back}
use Rattle.import_rule.proofs.Stabiliser.{in_one, in_gen, in_inv, Reach, stabiliser}

abbrev pub small_table : ℤ → List ℤ
small_table x = pos 0 ∷ pos 1 ∷ x ∷ negsuc 2 ∷ []

-- ---- both are symbols

module _ (x : ℤ) (kind : (x ≡ negsuc 1) ⊎ (x ≡ negsuc 2)) where
  small_numers : (i : ℕ) → i < 1 → nat_abs (numer (small_table x) i) ≤ 1000000000
  small_numers zero h = lit≤ tt
  small_numers (suc i) h = absurd (omega arith)

  small_denoms : (i : ℕ) → i < 1 → (1 ≤ nat_abs (denom (small_table x) i)) × (nat_abs (denom (small_table x) i) ≤ 1000000000)
      × (denom (small_table x) i ≡ pos (nat_abs (denom (small_table x) i)))
  small_denoms zero h = (lit≤ tt, lit≤ tt, refl)
  small_denoms (suc i) h = absurd (omega arith)

  small_neighbours : (i : ℕ) → i ≤ 1 → det (frame (side_at 1 (small_table x) i)) ≡ pos 1
  unfolding det
  small_neighbours zero h = refl
  small_neighbours (suc zero) h = refl
  small_neighbours (suc (suc i)) h = absurd (omega arith)

  small_pairings : (i : ℕ) → i ≤ 1 → (pairing_entry 1 (small_table x) i ≡ negsuc 1) ⊎ (pairing_entry 1 (small_table x) i ≡ negsuc 2)
      ⊎ FreeLabel 1 (small_table x) (pairing_entry 1 (small_table x) i)
  small_pairings zero h = elim kind [ inl e ↦ inl e | inr e ↦ inr (inl e) ]
  small_pairings (suc zero) h = inr (inl refl)
  small_pairings (suc (suc i)) h = absurd (omega arith)

  small_symbol : IsSymbol 1 (small_table x)
  small_symbol = record {
    some = omega arith;
    most = omega arith;
    long = refl;
    numers = small_numers;
    denoms = small_denoms;
    neighbours = small_neighbours;
    zero = record { at = 0; below = omega arith; num = refl; den = refl };
    pairings = small_pairings;
    odd = λ e. inr refl;
  }

-- ---- their generators

abbrev even_gens : List Mat
even_gens = generators 1 (small_table (negsuc 1))

abbrev odd_gens : List Mat
odd_gens = generators 1 (small_table (negsuc 2))

even_gens_are : even_gens ≡ mat_s ∷ mat_q ∷ []
unfolding ◌⊗◌ adj mat_s mat_q
even_gens_are = refl

odd_gens_are : odd_gens ≡ carried mat_s mat_q mat_s ∷ mat_q ∷ []
unfolding ◌⊗◌ adj mat_s mat_q
odd_gens_are = refl

adj_S : adj mat_s ≡ neg mat_s
unfolding adj neg mat_s
adj_S = refl

adj_Q : adj mat_q ≡ mat_p
unfolding adj mat_q mat_p
adj_Q = refl

turned_S : carried mat_s mat_q mat_s ⊗ mat_s ≡ mat_s ⊗ mat_q
unfolding ◌⊗◌ adj mat_s mat_q
turned_S = refl

turned_back : adj (carried mat_s mat_q mat_s) ⊗ mat_s ≡ mat_s ⊗ mat_p
unfolding ◌⊗◌ adj mat_s mat_q mat_p
turned_back = refl

module _ (σ κ : ℕ → ℕ) (n : ℕ) (T : Turning σ κ n) where
  -- ---- what fixes 0

  S_leads : Leads σ κ mat_s (σ 0)
  S_leads = leads-≈ σ κ n T (inl (sym (⊗-idl mat_s))) (leads_step σ κ n T word.S (leads_𝟙 σ κ n T))

  Q_leads : Leads σ κ mat_q (κ 0)
  Q_leads = leads-≈ σ κ n T (inl (sym (⊗-idl mat_q))) (leads_step σ κ n T word.Q (leads_𝟙 σ κ n T))

  P_leads : Leads σ κ mat_p (κ (κ 0))
  P_leads = leads-≈ σ κ n T (inl (sym (⊗-idl mat_p))) (leads_step σ κ n T word.P (leads_𝟙 σ κ n T))

  pub S_point : at σ κ 0 mat_s ≡ σ 0
  S_point = S_leads.is

  pub Q_point : at σ κ 0 mat_q ≡ κ 0
  Q_point = Q_leads.is

  pub T_point : at σ κ 0 mat_t ≡ σ (κ (κ 0))
  T_point = (leads-≈ σ κ n T (inl T_is) (leads_step σ κ n T word.S P_leads)).is

  conjugate_leads : Leads σ κ (carried mat_s mat_q mat_s) (σ (κ (σ 0)))
  conjugate_leads = leads-≈ σ κ n T (≈-left (mat_s ⊗ mat_q) (inr adj_S)) (leads_step σ κ n T word.S (leads_step σ κ n T word.Q S_leads))

  pub conjugate_point : at σ κ 0 (carried mat_s mat_q mat_s) ≡ σ (κ (σ 0))
  conjugate_point = conjugate_leads.is

  -- ---- S and T fix 0

  abbrev Known1 : Mat → ℕ → Type 0
  Known1 m x = (m ≈ 𝟙) × (x ≡ 0)

  fix_1 : σ 0 ≡ 0 → κ 0 ≡ 0 → (j : ℕ) → j < length even_gens → Leads σ κ (get_or even_gens j 𝟙) 0
  fix_1 e o j h = rw (ap (λ (l : List Mat). get_or l j 𝟙) even_gens_are) (go j (rw (ap length even_gens_are) at h))
    where
      go : (j : ℕ) → j < 2 → Leads σ κ (get_or (mat_s ∷ mat_q ∷ []) j 𝟙) 0
      go zero h = leads_to σ κ n T e S_leads
      go (suc zero) h = leads_to σ κ n T o Q_leads
      go (suc (suc j)) h = absurd (omega arith)

  steps_1 : (l : word.Letter) (m : Mat) (x : ℕ) → Known1 m x → Reach even_gens Known1 (m ⊗ word.letter l)
  steps_1 l m x k = go l
    where
      put : (g y : Mat) → InH even_gens g → y ≡ g → Reach even_gens Known1 (m ⊗ y)
      put g y h e = record { by = g; frame = 𝟙; pt = 0; in_h = h; known = (inl refl, refl); is = ≈-right y k.0 ∙≈ inl (⊗-idl y ∙ e ∙ sym (⊗-idr g)) }

      has : (j : ℕ) → get_or even_gens j 𝟙 ≡ get_or (mat_s ∷ mat_q ∷ []) j 𝟙
      has j = ap (λ (l : List Mat). get_or l j 𝟙) even_gens_are

      long : length even_gens ≡ 2
      long = ap length even_gens_are

      go : (l : word.Letter) → Reach even_gens Known1 (m ⊗ word.letter l)
      go word.S = put (get_or even_gens 0 𝟙) mat_s (in_gen even_gens 0 (rw long (lit≤ tt))) (sym (has 0))
      go word.Q = put (get_or even_gens 1 𝟙) mat_q (in_gen even_gens 1 (rw long (lit≤ tt))) (sym (has 1))
      go word.P = put (adj (get_or even_gens 1 𝟙)) mat_p (in_inv even_gens 1 (rw long (lit≤ tt))) (sym (ap adj (has 1) ∙ adj_Q))

  pub precisely_1 : σ 0 ≡ 0 → κ 0 ≡ 0 → Precisely σ κ 1 (small_table (negsuc 1))
  precisely_1 e o = record {
    symbol = small_symbol (negsuc 1) (inl refl);
    group = stabiliser even_gens σ κ n T (fix_1 e o) Known1 steps_1 (λ m x k. rw k.1 (leads-≈ σ κ n T k.0 (leads_𝟙 σ κ n T))) (inl refl, refl)
        (λ m k. record { word = []; letters = tt; is = k.0 });
  }

  -- ---- Q and S Q S⁻¹ fix 0, and S doesn't

  abbrev Known2 : Mat → ℕ → Type 0
  Known2 m x = ((m ≈ 𝟙) × (x ≡ 0)) ⊎ ((m ≈ mat_s) × (x ≡ σ 0))

  fix_2 : κ 0 ≡ 0 → κ (σ 0) ≡ σ 0 → (j : ℕ) → j < length odd_gens → Leads σ κ (get_or odd_gens j 𝟙) 0
  fix_2 o q j h = rw (ap (λ (l : List Mat). get_or l j 𝟙) odd_gens_are) (go j (rw (ap length odd_gens_are) at h))
    where
      go : (j : ℕ) → j < 2 → Leads σ κ (get_or (carried mat_s mat_q mat_s ∷ mat_q ∷ []) j 𝟙) 0
      go zero h = leads_to σ κ n T (ap σ q ∙ T.twice 0) conjugate_leads
      go (suc zero) h = leads_to σ κ n T o Q_leads
      go (suc (suc j)) h = absurd (omega arith)

  steps_2 : (l : word.Letter) (m : Mat) (x : ℕ) → Known2 m x → Reach odd_gens Known2 (m ⊗ word.letter l)
  steps_2 l m x k = go l k
    where
      has : (j : ℕ) → get_or odd_gens j 𝟙 ≡ get_or (carried mat_s mat_q mat_s ∷ mat_q ∷ []) j 𝟙
      has j = ap (λ (l : List Mat). get_or l j 𝟙) odd_gens_are

      long : length odd_gens ≡ 2
      long = ap length odd_gens_are

      put : (g f y : Mat) (x : ℕ) → InH odd_gens g → Known2 f x → m ⊗ y ≈ g ⊗ f → Reach odd_gens Known2 (m ⊗ y)
      put g f y x h k e = record { by = g; frame = f; pt = x; in_h = h; known = k; is = e }

      first : InH odd_gens (get_or odd_gens 0 𝟙)
      first = in_gen odd_gens 0 (rw long (lit≤ tt))

      first_back : InH odd_gens (adj (get_or odd_gens 0 𝟙))
      first_back = in_inv odd_gens 0 (rw long (lit≤ tt))

      second : InH odd_gens (get_or odd_gens 1 𝟙)
      second = in_gen odd_gens 1 (rw long (lit≤ tt))

      second_back : InH odd_gens (adj (get_or odd_gens 1 𝟙))
      second_back = in_inv odd_gens 1 (rw long (lit≤ tt))

      one : Known2 𝟙 0
      one = inl (inl refl, refl)

      other : Known2 mat_s (σ 0)
      other = inr (inl refl, refl)

      go : (l : word.Letter) → Known2 m x → Reach odd_gens Known2 (m ⊗ word.letter l)
      go word.S (inl k) = put 𝟙 mat_s mat_s (σ 0) (in_one odd_gens) other (≈-right mat_s k.0)
      go word.S (inr k) = put 𝟙 𝟙 mat_s 0 (in_one odd_gens) one (≈-right mat_s k.0 ∙≈ inr S_S ∙≈ inl (sym (⊗-idl 𝟙)))
      go word.Q (inl k) = put _ 𝟙 mat_q 0 second one (≈-right mat_q k.0 ∙≈ inl (⊗-idl mat_q ∙ sym (⊗-idr _ ∙ has 1)))
      go word.Q (inr k) = put _ mat_s mat_q (σ 0) first other (≈-right mat_q k.0 ∙≈ inl (sym (ap (λ (y : Mat). y ⊗ mat_s) (has 0) ∙ turned_S)))
      go word.P (inl k) = put _ 𝟙 mat_p 0 second_back one (≈-right mat_p k.0 ∙≈ inl (⊗-idl mat_p ∙ sym (⊗-idr _ ∙ ap adj (has 1) ∙ adj_Q)))
      go word.P (inr k) = put _ mat_s mat_p (σ 0) first_back other (≈-right mat_p k.0 ∙≈ inl (sym (ap (λ (y : Mat). adj y ⊗ mat_s) (has 0) ∙ turned_back)))

  known_leads_2 : (m : Mat) (x : ℕ) → Known2 m x → Leads σ κ m x
  known_leads_2 m x (inl k) = rw k.1 (leads-≈ σ κ n T k.0 (leads_𝟙 σ κ n T))
  known_leads_2 m x (inr k) = rw k.1 (leads-≈ σ κ n T k.0 S_leads)

  only_2 : ¬ (σ 0 ≡ 0) → (m : Mat) → Known2 m 0 → InH odd_gens m
  only_2 ne m (inl k) = record { word = []; letters = tt; is = k.0 }
  only_2 ne m (inr k) = absurd (ne (sym k.1))

  pub precisely_2 : ¬ (σ 0 ≡ 0) → κ 0 ≡ 0 → κ (σ 0) ≡ σ 0 → Precisely σ κ 1 (small_table (negsuc 2))
  precisely_2 ne o q = record {
    symbol = small_symbol (negsuc 2) (inr refl);
    group = stabiliser odd_gens σ κ n T (fix_2 o q) Known2 steps_2 known_leads_2 (inl (inl refl, refl)) (only_2 ne);
  }
