-- A table with another column of values is a table of the same tree with other labels.
-- Assumes nothing.
use Prim.Native.Nat.{ℕ, suc, ◌+◌, ◌-◌, ◌≤◌}
use native.Mathlib.Omega.{arith}
use mathlib.Core.Path.{◌≡◌, refl, sym, ap, ◌∙◌}
use mathlib.Core.List.{List, [], ◌∷◌, ◌++◌}
use lib.ListN.{length, get_or, take, drop, length-drop, length-append, take-append-drop}
use lib.Seq.{take-add, take_all}
use Rattle.plan.specs.Tree.{Forest, none, tree, count, labels, sizes, dists}
use Rattle.plan.specs.Table.{Table, table, TreeOf}
use Rattle.plan.proofs.Columns.{length-labels}
use Rattle.pass_moves.proofs.Rows.{table_eq, tall_tree}
use Rattle.pass_way.specs.Line.{Old, Line, base, down}
use Rattle.pass_way.specs.Walk.{valuing}

-- the trees of f, with the labels l
abbrev pub revalued : Forest ℕ → List ℕ → Forest ℕ
revalued none l = none
revalued (tree a k r) l = tree (get_or l 0 0) (revalued k (drop 1 l)) (revalued r (drop (suc (count k)) l))

pub count_revalued : (f : Forest ℕ) (l : List ℕ) → count (revalued f l) ≡ count f
count_revalued none l = refl
count_revalued (tree a k r) l =
    omega (arith, count_revalued k (drop 1 l), count_revalued r (drop (suc (count k)) l))

sizes_revalued : (f : Forest ℕ) (l : List ℕ) → sizes (revalued f l) ≡ sizes f
sizes_revalued none l = refl
sizes_revalued (tree a k r) l =
    λ w. suc (count_revalued k (drop 1 l) w)
    ∷ (sizes_revalued k (drop 1 l) w ++ sizes_revalued r (drop (suc (count k)) l) w)

dists_revalued : (d : ℕ) (f : Forest ℕ) (l : List ℕ) → dists d (revalued f l) ≡ dists d f
dists_revalued d none l = refl
dists_revalued d (tree a k r) l =
    ap (λ (n : ℕ). d ∷ (dists 1 (revalued k (drop 1 l)) ++ dists (d + suc n) (revalued r (drop (suc (count k)) l))))
    (count_revalued k (drop 1 l))
    ∙ (λ w. d ∷ (dists_revalued 1 k (drop 1 l) w
    ++ dists_revalued (d + suc (count k)) r (drop (suc (count k)) l) w))

labels_revalued : (f : Forest ℕ) (l : List ℕ) → count f ≤ length l → labels (revalued f l) ≡ take (count f) l
labels_revalued none l h = refl
labels_revalued (tree a k r) [] h = absurd (omega arith)
labels_revalued (tree a k r) (x ∷ l) h =
    (λ w. x ∷ (labels_revalued k l (omega arith) w
    ++ labels_revalued r (drop (count k) l) (omega (arith, length-drop (count k) l)) w))
    ∙ ap (λ (y : List ℕ). x ∷ y) (sym (take-add (count k) (count r) l))

module _ {t : Table} (l : List ℕ) (e : length l ≡ length t.value) where
  pub old-valued : (b q : ℕ) (f : Forest ℕ) → Old t b q f → Old (valuing t l) b q (revalued f (drop b l))
  old-valued b q f h =
      let v : Table = h.behind in
      let m : List ℕ = drop b l in
      let n : count f ≤ length m =
      omega (
        arith,
        e,
        length-drop b l,
        length-drop b t.value,
        ap (λ (x : Table). length x.value) h.is,
        length-append (labels f) v.value,
        length-labels f,
      ) in
      record {
        behind = table v.dist v.size (drop (count f) m);
        is =
            table_eq
            (ap (λ (x : Table). x.dist) h.is ∙ ap (λ (x : List ℕ). x ++ v.dist) (sym (dists_revalued (b - q) f m)))
            (ap (λ (x : Table). x.size) h.is ∙ ap (λ (x : List ℕ). x ++ v.size) (sym (sizes_revalued f m)))
            (sym (take-append-drop (count f) m)
            ∙ ap (λ (x : List ℕ). x ++ drop (count f) m) (sym (labels_revalued f m n)));
      }

  pub tree-valued : TreeOf t → TreeOf (valuing t l)
  tree-valued h =
      let f : Forest ℕ = tree h.root h.kids none in
      let n = count_revalued h.kids (drop 1 l) in
      let z : length l ≡ suc (count h.kids) = omega (arith, e, (tall_tree h).value) in
      record {
        root = get_or l 0 0;
        kids = revalued h.kids (drop 1 l);
        is-table =
            table_eq (ap (λ (x : Table). x.dist) h.is-table ∙ sym (dists_revalued 1 f l))
            (ap (λ (x : Table). x.size) h.is-table ∙ sym (sizes_revalued f l))
            (sym (take_all (count f) l (omega arith)) ∙ sym (labels_revalued f l (omega arith)));
        few = omega (arith, h.few);
      }

  pub line-valued : {u : Table} {i q j : ℕ} {f : Forest ℕ} → Line t u i q j f
      → Line (valuing t l) u i q j (revalued f (drop i l))
  line-valued {i = i} {f = f} (base z h w) =
      base z (old-valued i 0 f h) (omega (arith, count_revalued f (drop i l)))
  line-valued {i = i} {f = f} (down {b = b} {k = k} m z h w n d) =
      down (line-valued m) z (old-valued i b f h)
      (omega (arith, count_revalued f (drop i l), count_revalued k (drop 1 (drop b l)))) n d
