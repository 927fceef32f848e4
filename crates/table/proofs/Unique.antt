-- Each contract determines its answer: two answers that meet it are equal.
-- Assumes nothing.
use Rattle.std.proofs.Common.{◌≡◌, ℕ, ◌+◌, ◌≤◌, List, take, sym, refl, ap, ◌∙◌, arith, take-take, Option, Some, None, Result, Ok, Err}
use Rattle.plan.specs.Axes.{Reply, row, nothing, Start as Begin, Walked}
use Rattle.plan.proofs.Kit.{by_place}
use Rattle.plan.specs.declared.Span.{Span}
use Rattle.plan.specs.declared.Child.{Child}
use Rattle.plan.specs.declared.refusal.RowRefusal.{RowRefusal}
use Rattle.plan.specs.declared.refusal.RowRefusal.TheVariants.{Uneven, NoSuchRow, Broken}
use Rattle.plan.specs.declared.refusal.Misfit.{Misfit}
use Rattle.plan.specs.Told.{refused_told, reply_told, row_told, start_told, step_told}
use Rattle.table.proofs.Told.{differ, no-row}
use Rattle.table.specs.Shape.{Shaped, Begun, Right}

-- `is_sound` and `subtree`: a yes or no, and a list of values, each given by an equation. What `soundness` hands back is
-- given by its reading, which tells all answers apart: `answer_once` of plan, and `even_once` and `verdict_once` of the
-- tests 1 and 2
pub same_once : {A : Type 0} (x a b : A) → a ≡ x → b ≡ x → a ≡ b
same_once x a b p q = p ∙ sym q

-- a reading that tells all answers apart leaves one answer to each of its values
module _ {A B : Type 0} (read : A → B) (apart : (a b : A) → read a ≡ read b → a ≡ b) where
  read_once : (x : B) (a b : A) → read a ≡ x → read b ≡ x → a ≡ b
  read_once x a b p q = apart a b (p ∙ sym q)

refused_apart : (e f : RowRefusal) → refused_told e ≡ refused_told f → e ≡ f
refused_apart Uneven Uneven h = refl
refused_apart Uneven (NoSuchRow s) h = differ (cc)
refused_apart Uneven (Broken s) h = differ (cc)
refused_apart (NoSuchRow r) Uneven h = differ (cc)
refused_apart (NoSuchRow r) (NoSuchRow s) h = let e : r ≡ s = cc in ap NoSuchRow e
refused_apart (NoSuchRow r) (Broken s) h = differ (cc)
refused_apart (Broken r) Uneven h = differ (cc)
refused_apart (Broken r) (NoSuchRow s) h = differ (cc)
refused_apart (Broken r) (Broken s) h = let e : r ≡ s = cc in ap Broken e

some-row : {P : Type 0} (e : RowRefusal) → refused_told e ≡ nothing → P
some-row Uneven h = differ (cc)
some-row (NoSuchRow q) h = differ (cc)
some-row (Broken q) h = differ (cc)

reply_apart : (a b : Result (Option ℕ) RowRefusal) → reply_told a ≡ reply_told b → a ≡ b
reply_apart (Ok (Some r)) (Ok (Some s)) h = let e : r ≡ s = cc in ap (λ (x : ℕ). Ok (Some x)) e
reply_apart (Ok (Some r)) (Ok None) h = differ (cc)
reply_apart (Ok (Some r)) (Err f) h = no-row f r (sym h)
reply_apart (Ok None) (Ok (Some s)) h = differ (cc)
reply_apart (Ok None) (Ok None) h = refl
reply_apart (Ok None) (Err f) h = some-row f (sym h)
reply_apart (Err e) (Ok (Some s)) h = no-row e s h
reply_apart (Err e) (Ok None) h = some-row e h
reply_apart (Err e) (Err f) h = ap Err (refused_apart e f h)

row_apart : (a b : Result ℕ RowRefusal) → row_told a ≡ row_told b → a ≡ b
row_apart (Ok r) (Ok s) h = let e : r ≡ s = cc in ap Ok e
row_apart (Ok r) (Err f) h = no-row f r (sym h)
row_apart (Err e) (Ok s) h = no-row e s h
row_apart (Err e) (Err f) h = ap Err (refused_apart e f h)

start_apart : (a b : Result Span RowRefusal) → start_told a ≡ start_told b → a ≡ b
start_apart (Ok a) (Ok b) h =
    let t : row a.top ≡ row b.top = ap (λ (s : Begin). s.answer) h in
    let e : a.top ≡ b.top = cc in
    let n = ap (λ (s : Begin). s.next) h in
    let z = ap (λ (s : Begin). s.end) h in
    λ i. Ok (record { top = e i; next = n i; end = z i })
start_apart (Ok a) (Err f) h = no-row f a.top (sym (ap (λ (s : Begin). s.answer) h))
start_apart (Err e) (Ok b) h = no-row e b.top (ap (λ (s : Begin). s.answer) h)
start_apart (Err e) (Err f) h = ap Err (refused_apart e f (ap (λ (s : Begin). s.answer) h))

step_apart : (a b : Result (Option Child) Misfit) → step_told a ≡ step_told b → a ≡ b
step_apart (Ok (Some a)) (Ok (Some b)) h =
    let r : a.row ≡ b.row = cc in
    let n : a.next ≡ b.next = cc in
    λ i. Ok (Some (record { row = r i; next = n i }))
step_apart (Ok (Some a)) (Ok None) h = differ (cc)
step_apart (Ok (Some a)) (Err f) h = differ (cc)
step_apart (Ok None) (Ok (Some b)) h = differ (cc)
step_apart (Ok None) (Ok None) h = refl
step_apart (Ok None) (Err f) h = differ (cc)
step_apart (Err e) (Ok (Some b)) h = differ (cc)
step_apart (Err e) (Ok None) h = differ (cc)
step_apart (Err e) (Err f) h = let p : e.0 ≡ f.0 = cc in λ i. Err (record { 0 = p i })

-- `parent`, `first_child` and `next_sibling`
pub found_once : (x : Reply) (a b : Result (Option ℕ) RowRefusal) → reply_told a ≡ x → reply_told b ≡ x → a ≡ b
found_once = read_once reply_told reply_apart

-- `subtree_top`
pub row_once : (x : Reply) (a b : Result ℕ RowRefusal) → row_told a ≡ x → row_told b ≡ x → a ≡ b
row_once = read_once row_told row_apart

-- `step`
pub walk_once : (x : Walked) (a b : Result (Option Child) Misfit) → step_told a ≡ x → step_told b ≡ x → a ≡ b
walk_once = read_once step_told step_apart

-- `start_walk`
pub start_once : (x : Begin) (a b : Result Span RowRefusal) → start_told a ≡ x → start_told b ≡ x → a ≡ b
start_once = read_once start_told start_apart

-- ---- `first_bad`
-- what begins a sound table, and begins earlier, begins it too
begun_less : (j k : ℕ) (D S : List ℕ) → j ≤ k → Begun k D S → Begun j D S
begun_less j k D S l b =
    let less : (xs ys : List ℕ) → take k xs ≡ take k ys → take j xs ≡ take j ys =
    λ xs ys e. sym (take-take j k xs l) ∙ (ap (take j) e ∙ take-take j k ys l) in
    record {
      dists = b.dists;
      sizes = b.sizes;
      shaped = b.shaped;
      dist-length = b.dist-length;
      size-length = b.size-length;
      dist_same = less b.dists D b.dist_same;
      size_same = less b.sizes S b.size_same;
    }

shape_begun : (k : ℕ) (D S : List ℕ) → Shaped D S → Begun k D S
shape_begun k D S h =
    record {
      dists = D;
      sizes = S;
      shaped = h;
      dist-length = refl;
      size-length = refl;
      dist_same = refl;
      size_same = refl;
    }

pub shape_once : (D S : List ℕ) (v w : Option ℕ) → Right v D S → Right w D S → v ≡ w
shape_once D S None None h k = refl
shape_once D S None (Some r) h k = absurd (k.0 (shape_begun (r + 1) D S h))
shape_once D S (Some r) None h k = absurd (h.0 (shape_begun (r + 1) D S k))
shape_once D S (Some r) (Some s) h k =
    by_place r s
    (λ l. absurd (h.0 (begun_less (r + 1) s D S (omega arith) (k.1 (omega arith)))))
    (λ e. ap Some e)
    (λ l. absurd (k.0 (begun_less (s + 1) r D S (omega arith) (h.1 (omega arith)))))
