-- Moves one after the other.
-- Assumes nothing.
use Prim.Native.Nat.{ℕ, ◌≤◌}
use native.Mathlib.Omega.{arith}
use mathlib.Core.Path.{◌≡◌, refl, ◌∙◌, subst}
use mathlib.Core.Bool.{Bool, true}
use mathlib.Core.List.{List}
use Rattle.plan.specs.Table.{Table}
use Rattle.plan.specs.Change.{Change}
use Rattle.pass_moves.specs.Rows.{Room}
use Rattle.pass_moves.proofs.Rows.{later-on}
use Rattle.pass_way.specs.Machine.{State, Reach, stop, Away}
use Rattle.pass_way.proofs.Machine.{reach_trans, join}
use Rattle.pass_moves.specs.declared.Cursor.{Cursor}
use Rattle.pass_moves.specs.Written.{row, out}
use Rattle.pass_way.specs.Walk.{Elsewhere, state_of, Stands, Ends, Kept, Ready, Moved, Readied, Went}

pub away : (b : Bool) (c : Cursor) (p q : ℕ) → b ≡ true → Elsewhere b c p q → Away p q (row c) c.parent.0
away b c p q e h = subst (λ (x : Bool). Elsewhere x c p q) e h

pub reach_eq : {t : Table} {r r' s s' : State} → r ≡ r' → s ≡ s' → Reach t r' s' → Reach t r s
reach_eq e w p = rw (e, w) p

-- ---- the rows behind stay
pub room-kept : {m n : ℕ} {u u' : Table} → Kept m u u' → Room n u → Room n u'
room-kept k r =
    record {
      dist = omega (arith, k.dist, r.dist);
      size = omega (arith, k.size, r.size);
      value = omega (arith, k.value, r.value);
    }

pub kept-none : (n : ℕ) (u : Table) → Kept n u u
kept-none n u = record { later = refl; dist = refl; size = refl; value = refl }

pub kept_trans : {m n : ℕ} {u v w : Table} → m ≤ n → Kept m u v → Kept n v w → Kept n u w
kept_trans {m} {n} {u} {v} l a b =
    record {
      later = b.later ∙ later-on n m v u l a.later;
      dist = b.dist ∙ a.dist;
      size = b.size ∙ a.size;
      value = b.value ∙ a.value;
    }

-- ---- moves
module _ {t u : Table} where
  pub ends_on : {u' : Table} {c c' : Cursor} {m : ℕ} {cs cs' : List (Change ℕ)} → Ends t u c cs → Kept m u u'
      → Reach t (state_of u c cs) (state_of u' c' cs') → Ends t u' c' cs'
  ends_on e k r =
      record {
        target = e.target;
        reach = join t r e.reach e.fixed;
        none_left = e.none_left;
        fixed = e.fixed;
        few = e.few;
        room = room-kept k e.room;
      }

  pub moved_none : {c : Cursor} {p q : ℕ} → Stands t u c → Moved t u c p q u c
  moved_none {c} s = record { reach = λ cs a. stop; stands = s; kept = kept-none (out c) u; grows = omega arith }

  pub moved_trans : {u' u'' : Table} {c c' c'' : Cursor} {p q : ℕ} → Moved t u c p q u' c'
      → Moved t u' c' p q u'' c'' → Moved t u c p q u'' c''
  moved_trans a b =
      record {
        reach = λ cs h. reach_trans t (a.reach cs h) (b.reach cs h);
        stands = b.stands;
        kept = kept_trans b.grows a.kept b.kept;
        grows = omega (arith, a.grows, b.grows);
      }

  pub ready_on : {u' : Table} {c c' : Cursor} {p q : ℕ} → Ready t u c p q → Moved t u c p q u' c'
      → Ready t u' c' p q
  ready_on r m =
      record {
        tree_of = r.tree_of;
        stands = m.stands;
        left = r.left;
        aim = r.aim;
        ends = ends_on r.ends m.kept (m.reach r.left r.aim);
      }

-- ---- with values ahead
module _ {t u : Table} where
  pub went-none : {c : Cursor} {p q : ℕ} → Went t u c p q u c
  went-none {c} =
      record {
        went =
            λ l A R.
            record {
              moved = moved_none R.stands;
              ahead = A;
              level = refl;
              onward = omega arith;
              same = refl;
            };
      }

  pub went_trans : {u' u'' : Table} {c c' c'' : Cursor} {p q : ℕ} → Went t u c p q u' c' → Went t u' c' p q u'' c''
      → Went t u c p q u'' c''
  went_trans a b =
      record {
        went =
            λ l A R.
            let x = a.went l A R in
            let y = b.went l x.ahead (ready_on R x.moved) in
            record {
              moved = moved_trans x.moved y.moved;
              ahead = y.ahead;
              level = omega (arith, x.level, y.level);
              onward = omega (arith, x.onward, y.onward);
              same = y.same ∙ x.same;
            };
      }

  pub readied_on : {u' : Table} {c c' : Cursor} {p q : ℕ} → Readied t u c p q → Went t u c p q u' c'
      → Readied t u' c' p q
  readied_on r w =
      let x = w.went r.values r.ahead r.ready in
      record { values = r.values; ahead = x.ahead; ready = ready_on r.ready x.moved }
