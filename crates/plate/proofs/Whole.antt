-- What was read until the end of the input, or up to the limit, is a file's, so what is answered for it is the file's output. Assumes nothing.
use Rattle.std.proofs.Common.{◌≡◌, ◌∙◌, sym, ap, subst, ℕ, List, ◌++◌, ◌⊎◌, ◌≤◌, length, take}
use Rattle.std.proofs.Common.{⊎_elim, le_of_eq, arith, true≢false}
use Rattle.std.specs.Prelude.{Option, None, Some, IfSome, Result, Ok, Err, OnOk, is_ok}
use Rattle.std.specs.Io.KnownBytes.{Appends, Consumes}
use Rattle.std.proofs.lemmas.List.{append-nil, length-take-le}
use Rattle.std.proofs.Math.Seq.{take-append_seam, take_all}
use Rattle.convert.specs.Output.{output, read_limit}
use Rattle.convert.proofs.Past.{enough-read}
use Rattle.plate.specs.Input.{Stopped, came, Answers}

-- no more bytes than the limit
pub few : (count : ℕ) (left : Option (List ℕ)) → Stopped count left → count ≤ read_limit
few count left = ⊎_elim (λ e. le_of_eq e) (λ h. h.0)

-- where reading stopped, the bytes that were read have the whole file's output: its first ones, as many as the read limit, or all of it
pub whole_output : (bytes file : List ℕ) → came bytes file ⊎ (bytes ≡ file) → output bytes ≡ output file
whole_output bytes file = ⊎_elim (λ is. ap output is ∙ enough-read file) (λ is. ap output is)

-- what reads took is a file's first bytes, or all of it
came_of : (file left bytes : List ℕ) (count : ℕ) → length bytes ≡ count → file ≡ bytes ++ left → Stopped count (Some left) → came bytes file
came_of file left bytes count same is =
    ⊎_elim
    (λ e. sym (ap (λ (k : ℕ). take k file) (sym (same ∙ e)) ∙ (ap (take (length bytes)) is ∙ take-append_seam bytes left)))
    (λ h. sym
    (ap (take read_limit) (is ∙ (ap (λ (l : List ℕ). bytes ++ l) h.1 ∙ append-nil bytes)) ∙ take_all read_limit bytes (omega (arith, same, h.0))))

-- so the file's output is what was written
pub whole : (known known' held held' : Option (List ℕ)) (count : ℕ) (input out : List ℕ) (r : ℕ) → count ≤ length input → Stopped count known'
    → Consumes known known' (take count input) → Answers (take count input) out r → Appends held held' (take r out)
    → IfSome known (λ file. Appends held held' (output file))
whole None known' held held' count input out r inside stopped took answers written = tt
whole (Some file) None held held' count input out r inside stopped took answers written = absurd took
whole (Some file) (Some left) held held' count input out r inside stopped took answers written =
    let is = came_of file left (take count input) count (length-take-le count input inside) took stopped in
    subst (λ (bytes : List ℕ). Appends held held' bytes) (answers.is file is) written

-- what holds where one call succeeded holds where the answer made of it is a success
pub on_both : {E F P Q : Type 0} (r : Result (Unit {0}) E) (s : Result (Unit {0}) F) → is_ok s ≡ is_ok r → (P → Q) → OnOk r P → OnOk s Q
on_both (Ok x) (Ok y) e f p = f p
on_both (Ok x) (Err y) e f p = tt
on_both (Err x) (Ok y) e f p = absurd (true≢false e)
on_both (Err x) (Err y) e f p = tt
