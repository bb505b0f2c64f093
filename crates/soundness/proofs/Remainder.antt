-- What a claim of "at least" that meets its conditions may miss after so many rounds. Assumes nothing.
use mathlib.Core.Path.{◌≡◌, refl, sym}
use mathlib.Core.Bool.{Bool, true, false}
use mathlib.Core.List.{[], ◌∷◌}
use mathlib.Core.Logic.{◌⊎◌, inl, inr, ⊎_elim}
use Prim.Native.Nat.{ℕ, zero, suc, ◌+◌, ◌-◌, ◌*◌, ◌^◌, ◌≤◌, ◌<◌}
use native.Mathlib.Nat.{add-le-add, mul-le-mul, mul-le-mul_left, mul-le-mul_right, pow-le-pow_left, sub-add_cancel}
use native.Mathlib.Nat.{mul-one, mul-suc, suc-mul, mul-zero, zero-mul, mul_assoc, mul_comm, mul-sub, add-suc, add-zero, pow-zero, pow-suc}
use native.Mathlib.Omega.{arith}
use lib.Pow.{pow-add}
use Rattle.walk.specs.Fold.{sum}
use Rattle.walk.proofs.Fold.{at_end, sum_le, sum_times, sum_plus}
use Rattle.soundness.specs.Process.{Process, Strategy, stepped}
use Rattle.soundness.proofs.Conditions.{Obeys, AtLeast}
use Rattle.soundness.proofs.Steps.{later, stepped_stop, stepped_step}
use Rattle.soundness.proofs.Sums.{sum_room}

-- arithmetic of a step: the bound of its sums and the condition on the claim give the bound at the state
a_step : (c N B M b x claim gain values claims : ℕ)
    → N * claim ≤ claims + c * (N * gain) → claims * (B * M) + x ≤ values * (c * M) + N * (B * b)
    → claim * (B * N * M) + x ≤ c * (B * N * gain + values) * M + B * N * b
a_step c N B M b x claim gain values claims h k = omega (arith, mul-le-mul_left (B * M) h)

-- arithmetic of a branch: its bound by its weight, over a greater scale
a_branch : (c B M b scale weight claim value : ℕ)
    → claim * (B * M) ≤ c * value * M + B * b
    → weight * claim * (B * (M * scale)) ≤ weight * value * (c * (M * scale)) + weight * (B * (b * scale))
a_branch c B M b scale weight claim value h = omega (arith, mul-le-mul_left (weight * scale) h)

-- arithmetic of the falling branch: it has room for the least part
a_fall : (c N B M b x least greatest weight claim value : ℕ)
    → least * N ≤ weight * greatest → claim * (B * M) + B * x ≤ c * value * M + B * b
    → weight * claim * (B * (M * greatest)) + B * N * (x * least) ≤ weight * value * (c * (M * greatest)) + weight * (B * (b * greatest))
a_fall c N B M b x least greatest weight claim value h k = omega (arith, mul-le-mul_left (B * x) h, mul-le-mul_left (weight * greatest) k)

-- one more factor of a power
one_more : (x n k : ℕ) → x * n ^ suc k ≡ x * n ^ k * n
one_more x n k = rw (pow-suc n k) (sym (mul_assoc x (n ^ k) n))

-- a bound with room for the least part is a bound by the rest
the_rest : (A D B b G L : ℕ) → L ≤ G → A + B * (b * L) ≤ D + B * (b * G) → A ≤ D + B * (b * (G - L))
the_rest A D B b G L h k = by (G - L) (sub-add_cancel h)
  where
    by : (u : ℕ) → u + L ≡ G → A ≤ D + B * (b * u)
    by u e =
        let d : A + B * (b * L) ≤ D + B * (b * (u + L)) = rw e k in
        omega arith

-- a bound on what is missed, as a bound on the difference
by_difference : (claim B value scale whole part : ℕ) → claim * (B * scale) ≤ value * scale + B * (whole * part) → (claim * B - value) * scale ≤ whole * B * part
by_difference claim B value scale whole part h = rw (mul_comm (claim * B - value) scale, mul-sub scale (claim * B) value) (omega arith)

module _ (P : Process) (c whole top least greatest : ℕ) (claim rank : ℕ → ℕ) (Within : ℕ → Type 0) (Allowed : ℕ → ℕ → Type 0) where
  -- after k steps no claim misses more than b, over base ^ k and M
  abbrev Bounded : ℕ → ℕ → ℕ → Type 0
  Bounded b M k = (σ : Strategy) → Obeys P Within Allowed σ → (s : ℕ) → Within s
      → claim s * (P.base ^ k * M) ≤ c * stepped P σ k s * M + P.base ^ k * b

  -- the same with room for x, for claims of 0 and of ranks up to r
  abbrev Closer : ℕ → ℕ → ℕ → ℕ → ℕ → Type 0
  Closer b M x r k = (σ : Strategy) → Obeys P Within Allowed σ → (s : ℕ) → Within s → (0 < claim s → rank s ≤ r)
      → claim s * (P.base ^ k * M) + P.base ^ k * x ≤ c * stepped P σ k s * M + P.base ^ k * b

  -- what branch j adds to the claim of s, and what its number and b, the bound on what it misses, add against it
  abbrev due : Strategy → ℕ → ℕ → ℕ → ℕ → ℕ
  due σ k s M j = P.weight (σ [] s) j * claim (P.destination j) * (P.base ^ k * M)

  abbrev met : Strategy → ℕ → ℕ → ℕ → ℕ → ℕ → ℕ
  met σ k s b M j = P.weight (σ [] s) j * stepped P (later σ s) k (P.destination j) * (c * M) + P.weight (σ [] s) j * (P.base ^ k * b)

  module _ (h : AtLeast P c whole top least greatest claim rank Within Allowed) where
    -- a claim of 0 and a stop's claim miss nothing
    settled : (σ : Strategy) (k s M : ℕ) → Within s
        → (claim s * (P.base ^ k * M) ≤ c * stepped P σ k s * M) ⊎ ((0 < claim s) × (P.stops s ≡ false))
    settled σ k s M w = ⊎_elim
        (λ (z : claim s ≤ 0). inl (omega (arith, mul-le-mul_right (P.base ^ k * M) z)))
        (λ l. by l (P.stops s) refl)
        (at_end 0 (claim s))
      where
        by : 0 < claim s → (b : Bool) → P.stops s ≡ b → (claim s * (P.base ^ k * M) ≤ c * stepped P σ k s * M) ⊎ ((0 < claim s) × (P.stops s ≡ false))
        by l true e = inl (rw (stepped_stop P σ s k e) (omega (arith, mul-le-mul_left (P.base ^ k * M) (h.at_stop s w e))))
        by l false e = inr (l, e)

    -- no claim misses more than the whole before the first step
    start : Bounded whole 1 0
    start σ o s w = rw (pow-zero P.base) (omega (arith, h.bounded s w))

    -- a state that is no stop, and the action picked there
    module _ (σ : Strategy) (o : Obeys P Within Allowed σ) (s : ℕ) (w : Within s) (e : P.stops s ≡ false) (k : ℕ) where
      -- the bound at s one step on, with room for x, from the sums over its branches
      step : (b M x : ℕ) → sum (due σ k s M) (P.lo (σ [] s)) (P.hi (σ [] s)) + x ≤ sum (met σ k s b M) (P.lo (σ [] s)) (P.hi (σ [] s))
          → claim s * (P.base ^ suc k * M) + x ≤ c * stepped P σ (suc k) s * M + P.base ^ suc k * b
      step b M x sums =
          rw (stepped_step P σ s k e, pow-suc P.base k)
          (a_step c P.base (P.base ^ k) M b x (claim s) (P.gain s) _ _ (h.at_step s a w e (o [] s w e))
          (rw (
            sum_times (λ j. P.weight a j * claim (P.destination j)) (P.base ^ k * M) (P.hi a) (P.lo a),
            sum_plus (λ j. P.weight a j * stepped P (later σ s) k (P.destination j) * (c * M)) (λ j. P.weight a j * (P.base ^ k * b)) (P.hi a) (P.lo a),
            sum_times (λ j. P.weight a j * stepped P (later σ s) k (P.destination j)) (c * M) (P.hi a) (P.lo a),
            sum_times (P.weight a) (P.base ^ k * b) (P.hi a) (P.lo a),
            h.adds_up s a w e (o [] s w e),
          )
          at sums))
        where
          a : ℕ
          a = σ [] s

      -- no branch leads outside
      stays : (j : ℕ) → P.lo (σ [] s) ≤ j → j < P.hi (σ [] s) → Within (P.destination j)
      stays j = h.closed.stays s (σ [] s) j w e (o [] s w e)

      -- each branch meets what is due, over a scale greater by one factor
      each : (b M : ℕ) → Bounded b M k → (j : ℕ) → P.lo (σ [] s) ≤ j → j < P.hi (σ [] s)
          → due σ k s (M * greatest) j ≤ met σ k s (b * greatest) (M * greatest) j
      each b M all j l u = a_branch c (P.base ^ k) M b greatest (P.weight (σ [] s) j) (claim (P.destination j)) _
          (all (later σ s) (λ history. o (_ ∷ history)) (P.destination j) (stays j l u))

      -- the falling branch leaves room for the least part
      fallen : (b M x r : ℕ) → Closer b M x r k → Bounded b M k → 0 < claim s → rank s ≤ suc r
          → sum (due σ k s (M * greatest)) (P.lo (σ [] s)) (P.hi (σ [] s)) + P.base ^ suc k * (x * least)
          ≤ sum (met σ k s (b * greatest) (M * greatest)) (P.lo (σ [] s)) (P.hi (σ [] s))
      fallen b M x r near all p ranked =
          let f = h.falls s (σ [] s) w e p (o [] s w e) in
          sum_room (due σ k s (M * greatest)) (met σ k s (b * greatest) (M * greatest)) (P.base ^ suc k * (x * least))
          (P.hi (σ [] s)) f.0 (P.lo (σ [] s)) f.1 f.2
          (each b M all)
          (rw (pow-suc P.base k)
          (a_fall c P.base (P.base ^ k) M b x least greatest (P.weight (σ [] s) f.0) (claim (P.destination f.0)) _ f.4
          (near (later σ s) (λ history. o (_ ∷ history)) (P.destination f.0) (stays f.0 f.1 f.2) (λ q. omega arith))))

    -- one more step keeps a bound
    kept : (b M k : ℕ) → Bounded b M k → Bounded (b * greatest) (M * greatest) (suc k)
    kept b M k all σ o s w = ⊎_elim
        (λ z. omega arith)
        (λ g. omega (
          arith,
          step σ o s w g.1 k (b * greatest) (M * greatest) 0
              (omega (arith, sum_le _ _ (P.hi (σ [] s)) (P.lo (σ [] s)) (each σ o s w g.1 k b M all))),
        ))
        (settled σ (suc k) s (M * greatest) w)

    -- one more step brings the next rank closer
    closer : (b M x r k : ℕ) → x ≤ b → Bounded b M k → Closer b M x r k → Closer (b * greatest) (M * greatest) (x * least) (suc r) (suc k)
    closer b M x r k l all near σ o s w ranked = ⊎_elim
        (λ z. add-le-add z (mul-le-mul_left (P.base ^ suc k) (mul-le-mul l h.part)))
        (λ g. step σ o s w g.1 k (b * greatest) (M * greatest) _ (fallen σ o s w g.1 k b M x r near all g.0 (ranked g.0)))
        (settled σ (suc k) s (M * greatest) w)

    -- at rank 0 there are only stops and claims of 0
    lowest : (b M k : ℕ) → Closer b M b 0 k
    lowest b M k σ o s w ranked = ⊎_elim
        (λ z. omega arith)
        (λ g. absurd (omega (arith, ranked g.0, (h.falls s (σ [] s) w g.1 g.0 (o [] s w g.1)).3)))
        (settled σ k s M w)

    -- a bound after r more steps
    kept_for : (b M k r : ℕ) → Bounded b M k → Bounded (b * greatest ^ r) (M * greatest ^ r) (k + r)
    kept_for b M k zero all = rw (pow-zero greatest, mul-one b, mul-one M, add-zero k) all
    kept_for b M k (suc r) all =
        rw (one_more b greatest r, one_more M greatest r, add-suc k r)
        (kept (b * greatest ^ r) (M * greatest ^ r) (k + r) (kept_for b M k r all))

    -- the claims of ranks up to r are closer after r more steps
    closer_for : (b M k r : ℕ) → Bounded b M k → Closer (b * greatest ^ r) (M * greatest ^ r) (b * least ^ r) r (k + r)
    closer_for b M k zero all = rw (pow-zero greatest, pow-zero least, mul-one b, mul-one M, add-zero k) (lowest b M k)
    closer_for b M k (suc r) all =
        rw (one_more b greatest r, one_more M greatest r, one_more b least r, add-suc k r)
        (closer (b * greatest ^ r) (M * greatest ^ r) (b * least ^ r) r (k + r)
        (mul-le-mul_left b (pow-le-pow_left h.part r)) (kept_for b M k r all) (closer_for b M k r all))

    -- a round of top steps leaves one part of what was missed
    round : (b M k : ℕ) → Bounded b M k → Bounded (b * (greatest ^ top - least ^ top)) (M * greatest ^ top) (k + top)
    round b M k all σ o s w = the_rest _ _ (P.base ^ (k + top)) b (greatest ^ top) (least ^ top) (pow-le-pow_left h.part top)
        (closer_for b M k top all σ o s w (h.topped s w))

    -- what m rounds leave of the whole
    rounds : (m : ℕ) → Bounded (whole * (greatest ^ top - least ^ top) ^ m) (greatest ^ (top * m)) (m * top)
    rounds zero = rw (mul-zero top, zero-mul top, pow-zero (greatest ^ top - least ^ top), pow-zero greatest, mul-one whole) start
    rounds (suc m) =
        rw (one_more whole (greatest ^ top - least ^ top) m, mul-suc top m, pow-add greatest (top * m) top, suc-mul m top)
        (round (whole * (greatest ^ top - least ^ top) ^ m) (greatest ^ (top * m)) (m * top) (rounds m))

    -- after m rounds the stepped number misses at most that part of the claim
    pub missed : (σ : Strategy) → Obeys P Within Allowed σ → (m s : ℕ) → Within s
        → claim s * (P.base ^ (m * top) * greatest ^ (top * m))
        ≤ c * stepped P σ (m * top) s * greatest ^ (top * m) + P.base ^ (m * top) * (whole * (greatest ^ top - least ^ top) ^ m)
    missed σ o m s w = rounds m σ o s w

    -- the same as a bound on the difference
    pub missed_by : (σ : Strategy) → Obeys P Within Allowed σ → (m s : ℕ) → Within s
        → (claim s * P.base ^ (m * top) - c * stepped P σ (m * top) s) * greatest ^ (top * m)
        ≤ whole * P.base ^ (m * top) * (greatest ^ top - least ^ top) ^ m
    missed_by σ o m s w =
        by_difference (claim s) (P.base ^ (m * top)) (c * stepped P σ (m * top) s) (greatest ^ (top * m))
        whole ((greatest ^ top - least ^ top) ^ m) (missed σ o m s w)
