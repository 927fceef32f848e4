-- The values have no part in soundness; and what makes a table unsound.
-- Assumes nothing.
use Rattle.std.proofs.Common.{◌≡◌, ℕ, Bool, true, false, T, List, length, sym, ◌∙◌, arith}
use Rattle.plan.specs.Table.{Table, table, even, sound}
use Rattle.plan.proofs.Kit.{false_of}
use Rattle.plan.proofs.Tests.{even_of}
use Rattle.table.specs.Rows.{Rooted, Says}
use Rattle.table.specs.Shape.{Shaped}
use Rattle.table.proofs.Build.{rows-sound}
use Rattle.table.proofs.Parents.{sound_lengths, sound-rows, shape_lengths, shape_rows}
use Rattle.table.proofs.Says.{says_same}

pub shape_sound : (D S L : List ℕ) → length L ≡ length S → Shaped D S → T (sound (table D S L))
shape_sound D S L e h =
    let l = shape_lengths D S h in
    rows-sound D S L l.0 e l.1 l.2 (shape_rows D S h)

-- a test of the shape is one of the table
pub shape_says : (D S L : List ℕ) (b : Bool) → length L ≡ length S → Says b (Shaped D S) → b ≡ sound (table D S L)
shape_says D S L b e h =
    says_same b (sound (table D S L)) (Shaped D S) h (shape_sound D S L e) (λ t. record { value = L; is = t })

-- ---- unsound tables
unsound : (t : Table) → (T (sound t) → ⊥) → false ≡ sound t
unsound t h = sym (false_of (sound t) h)

pub uneven-unsound : (t : Table) → even t ≡ false → false ≡ sound t
uneven-unsound t e =
    unsound t (λ h. let l = sound_lengths t h in
    let z : true ≡ false = sym (even_of t l.dist l.value) ∙ e in
    let w : ◌≡◌ {A = ℕ} 0 1 = cc in omega arith)

sound-root : (D S L : List ℕ) → T (sound (table D S L)) → Rooted D S
sound-root D S L h =
    let l = sound_lengths (table D S L) h in
    let r = sound-rows (table D S L) h in
    record { same = l.dist; some = l.some; few = l.few; root-dist = r.root-dist; root-size = r.root-size }

pub rootless_unsound : (D S L : List ℕ) → (Rooted D S → ⊥) → false ≡ sound (table D S L)
rootless_unsound D S L h = unsound (table D S L) (λ t. h (sound-root D S L t))
