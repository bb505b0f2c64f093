-- A file that passed: each lent table has room for its block, which lies within the file. Assumes nothing.
use mathlib.Core.Path.{◌≡◌, refl, sym, ap, subst, ◌∙◌}
use mathlib.Core.Bool.{Bool, true, false, ◌&&◌}
use mathlib.Core.List.{List, [], ◌∷◌}
use Prim.Native.Nat.{ℕ, zero, suc, ◌+◌, ◌-◌, ◌*◌, ◌≤◌, zero-le}
use native.Mathlib.Omega.{arith}
use lib.Dec.{leb, eqb}
use lib.ListN.{length, get_or, drop, length-append, length-drop}
use borrow.Author.Tests.{leb-true, eqb-true}
use Rattle.model.specs.declared.tables.Lengths.{Lengths}
use Rattle.model.specs.Limits.{most_states, most_actions, most_branches}
use Rattle.model.specs.Kinds.{is_kind}
use Rattle.wire.specs.Blocks.{Block, size, place, block, block_of, numbers, overwritten}
use Rattle.wire.proofs.RoundTrip.{numbers_length}
use Rattle.certfile.specs.declared.Header.{Header}
use Rattle.certfile.specs.Outcome.{Outcome, Read, Refused}
use Rattle.certfile.specs.File.{header_blocks, header_of, announced, blocks, outcome_of, table_of}
use Rattle.certfile.specs.File.{roomy, counts_right, length_right, length_field_right, version_right}
use Rattle.certfile.specs.Layout.{table_place, counts_of, places_of}
use Rattle.certfile.specs.Tables.{Tables, lent, Roomy, ReadInto}
use Rattle.certfile.proofs.Placed.{block_within}
use Rattle.certfile.proofs.Judged.{next, from_34, from_33, from_1, from_32, judged, both_true}

-- only a test that holds is passed
through : (right : Bool) (k : ℕ) (o : Outcome) (h : Header) → next right k o ≡ Read h → (right ≡ true) × (o ≡ Read h)
through true k o h e = (refl, e)
through false k o h e = let z : ◌≡◌ {A = ℕ} 0 1 = cc in absurd (omega arith)

is_read : (x y : Header) → Read x ≡ Read y → x ≡ y
is_read x y e = cc

room_at : (xs : List Block) (l : List ℕ) → roomy xs l ≡ true → (i : ℕ) → (block xs i).count ≤ get_or l i 0
unfolding roomy block
room_at [] l e i = zero-le
room_at (x ∷ xs) [] e zero = omega (arith, eqb-true x.count 0 (both_true (eqb x.count 0) (roomy xs []) e).0)
room_at (x ∷ xs) [] e (suc i) = room_at xs [] (both_true (eqb x.count 0) (roomy xs []) e).1 i
room_at (x ∷ xs) (n ∷ l) e zero = leb-true x.count n (both_true (leb x.count n) (roomy xs l) e).0
room_at (x ∷ xs) (n ∷ l) e (suc i) = room_at xs l (both_true (leb x.count n) (roomy xs l) e).1 i

all_roomy : (h : Header) (l : List ℕ) → counts_right h l ≡ true → roomy (announced h) l ≡ true
unfolding counts_right
all_roomy h l e =
    (both_true (leb h.b most_branches) (roomy (announced h) l)
    (both_true (leb h.m most_actions) (leb h.b most_branches && roomy (announced h) l)
    (both_true (leb h.n most_states) (leb h.m most_actions && (leb h.b most_branches && roomy (announced h) l)) e).1).1).1

-- a table lies within a file whose length is right
inside : (h : Header) (file : List ℕ) → length_right h file ≡ true → (i : ℕ)
    → table_place h i + (block (announced h) i).count * (block (announced h) i).width ≤ length file
unfolding length_right table_place
inside h file e i = omega (arith, eqb-true (length file) (size (blocks h)) e, block_within (announced h) i)

-- what a file that is read has passed
pub record Passed (l file : List ℕ) (h : Header) : Type 0 where
  pub header : header_of file ≡ h
  pub field : length_field_right file ≡ true
  pub version : version_right file ≡ true
  pub kind : is_kind h.kind ≡ true
  pub counts : counts_right h l ≡ true
  pub long : length_right h file ≡ true

-- it is read exactly where it passed
module _ (l file : List ℕ) (h : Header) where
  pub of_passed : Passed l file h → outcome_of l file ≡ Read h
  of_passed p = judged l file ∙ rw (p.field, p.version, p.header, p.kind, p.counts, p.long)

  pub passed : outcome_of l file ≡ Read h → Passed l file h
  passed e =
      let a = through (length_field_right file) 31 (from_32 l file) h (sym (judged l file) ∙ e) in
      let b = through (version_right file) 32 (from_1 l file) h a.1 in
      let c = through (is_kind (header_of file).kind) 1 (from_33 l file) h b.1 in
      let d = through (counts_right (header_of file) l) 33 (from_34 l file) h c.1 in
      let f = through (length_right (header_of file) file) 34 (Read (header_of file)) h d.1 in
      let g : header_of file ≡ h = is_read _ _ f.1 in
      record {
        header = g;
        field = a.0;
        version = b.0;
        kind = subst (λ (x : Header). is_kind x.kind ≡ true) g c.0;
        counts = subst (λ (x : Header). counts_right x l ≡ true) g d.0;
        long = subst (λ (x : Header). length_right x file ≡ true) g f.0;
      }

  pub has_room : outcome_of l file ≡ Read h → Roomy h l
  has_room e = room_at (announced h) l (all_roomy h l (passed e).counts)

-- what each read asks, at a table's place and number of entries
pub record Rooms (place count : Lengths) (file : List ℕ) (t : Tables) : Type 0 where
  pub marks : (place.marks + count.marks * 1 ≤ length file) × (count.marks ≤ length t.marks)
  pub action_starts : (place.action_starts + count.action_starts * 4 ≤ length file) × (count.action_starts ≤ length t.action_starts)
  pub branch_starts : (place.branch_starts + count.branch_starts * 4 ≤ length file) × (count.branch_starts ≤ length t.branch_starts)
  pub destinations : (place.destinations + count.destinations * 4 ≤ length file) × (count.destinations ≤ length t.destinations)
  pub weights : (place.weights + count.weights * 4 ≤ length file) × (count.weights ≤ length t.weights)
  pub costs : (place.costs + count.costs * 4 ≤ length file) × (count.costs ≤ length t.costs)
  pub claims : (place.claims + count.claims * 8 ≤ length file) × (count.claims ≤ length t.claims)
  pub ranks : (place.ranks + count.ranks * 4 ≤ length file) × (count.ranks ≤ length t.ranks)

module _ (h : Header) (place count : Lengths) (l file : List ℕ) (t : Tables) (p : place ≡ places_of h) (q : count ≡ counts_of h)
    (f : l ≡ lent t) (e : Read h ≡ outcome_of l file) where
  read_so : outcome_of (lent t) file ≡ Read h
  read_so = rw (sym f) (sym e)

  pub rooms : Rooms place count file t
  unfolding block announced
  rooms =
      let lies = inside h file (passed (lent t) file h read_so).long in
      let fits = has_room (lent t) file h read_so in
      rw (p, q)
      (record {
        marks = (lies 0, fits 0);
        action_starts = (lies 1, fits 1);
        branch_starts = (lies 2, fits 2);
        destinations = (lies 3, fits 3);
        weights = (lies 4, fits 4);
        costs = (lies 5, fits 5);
        claims = (lies 6, fits 6);
        ranks = (lies 7, fits 7);
      })

  -- and what the reads leave
  pub all_filled : (u : Tables)
      → u.marks ≡ overwritten (block_of 1 count.marks) file place.marks t.marks
      → u.action_starts ≡ overwritten (block_of 4 count.action_starts) file place.action_starts t.action_starts
      → u.branch_starts ≡ overwritten (block_of 4 count.branch_starts) file place.branch_starts t.branch_starts
      → u.destinations ≡ overwritten (block_of 4 count.destinations) file place.destinations t.destinations
      → u.weights ≡ overwritten (block_of 4 count.weights) file place.weights t.weights
      → u.costs ≡ overwritten (block_of 4 count.costs) file place.costs t.costs
      → u.claims ≡ overwritten (block_of 8 count.claims) file place.claims t.claims
      → u.ranks ≡ overwritten (block_of 4 count.ranks) file place.ranks t.ranks
      → ReadInto (Read h) file t u
  unfolding table_of table_place
  all_filled u e1 e2 e3 e4 e5 e6 e7 e8 =
      record {
        answer = sym read_so;
        marks = e1 ∙ rw (p, q);
        action_starts = e2 ∙ rw (p, q);
        branch_starts = e3 ∙ rw (p, q);
        destinations = e4 ∙ rw (p, q);
        weights = e5 ∙ rw (p, q);
        costs = e6 ∙ rw (p, q);
        claims = e7 ∙ rw (p, q);
        ranks = e8 ∙ rw (p, q);
      }

-- tables that keep their lengths lend the same
pub lengths_kept : (t u : Tables)
    → length u.marks ≡ length t.marks
    → length u.action_starts ≡ length t.action_starts
    → length u.branch_starts ≡ length t.branch_starts
    → length u.destinations ≡ length t.destinations
    → length u.weights ≡ length t.weights
    → length u.costs ≡ length t.costs
    → length u.claims ≡ length t.claims
    → length u.ranks ≡ length t.ranks
    → lent u ≡ lent t
lengths_kept t u a b c d e f g h = rw (a, b, c, d, e, f, g, h)

-- tables that a file was read into have room for its blocks
pub read_roomy : (o : Outcome) (file : List ℕ) (t u : Tables) → ReadInto o file t u → (h : Header) → o ≡ Read h → lent u ≡ lent t → Roomy h (lent u)
read_roomy o file t u w h e kept = subst (λ (l : List ℕ). Roomy h l) (sym kept) (has_room (lent t) file h (sym w.answer ∙ e))

-- a table that a block overwrites keeps its length
overwritten_length : (x : Block) (file : List ℕ) (at : ℕ) (table : List ℕ) → x.count ≤ length table → length (overwritten x file at table) ≡ length table
unfolding overwritten
overwritten_length x file at table fits =
    omega (
      arith,
      fits,
      length-append (numbers x file at) (drop x.count table),
      numbers_length x file at,
      length-drop x.count table,
    )

module _ (h : Header) (file : List ℕ) (t u : Tables) (w : ReadInto (Read h) file t u) where
  kept : (i : ℕ) (x y : List ℕ) → x ≡ table_of (Read h) i file y → (block (announced h) (i - 1)).count ≤ length y → length x ≡ length y
  unfolding table_of
  kept i x y e fits = ap length e ∙ overwritten_length (block (announced h) (i - 1)) file (size header_blocks + place (announced h) (i - 1)) y fits

  -- so each lent table keeps its length where a file was read
  lengths_read : lent u ≡ lent t
  lengths_read =
      let fits = has_room (lent t) file h (sym w.answer) in
      lengths_kept t u
      (kept 1 _ _ w.marks (fits 0))
      (kept 2 _ _ w.action_starts (fits 1))
      (kept 3 _ _ w.branch_starts (fits 2))
      (kept 4 _ _ w.destinations (fits 3))
      (kept 5 _ _ w.weights (fits 4))
      (kept 6 _ _ w.costs (fits 5))
      (kept 7 _ _ w.claims (fits 6))
      (kept 8 _ _ w.ranks (fits 7))

  -- and has room for its block
  pub roomy_read : Roomy h (lent u)
  roomy_read = subst (λ (l : List ℕ). Roomy h l) (sym lengths_read) (has_room (lent t) file h (sym w.answer))

-- a refusal leaves each table as it was
pub untouched : (number place : ℕ) (l file : List ℕ) (t : Tables) → l ≡ lent t → Refused number place ≡ outcome_of l file
    → ReadInto (Refused number place) file t t
unfolding table_of
untouched number place l file t f e =
    record {
      answer = e ∙ rw f refl;
      marks = refl;
      action_starts = refl;
      branch_starts = refl;
      destinations = refl;
      weights = refl;
      costs = refl;
      claims = refl;
      ranks = refl;
    }
