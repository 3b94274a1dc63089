-- A rectangle of words laid into lent words. Assumes nothing: these are definitions.
use Rattle.std.specs.Prelude.{Bool, cond, ◌&&◌, List, ℕ, ◌-◌, ◌/◌, ◌%◌, leb, ltb, length, get_or}
use Rattle.facts.specs.Tab.{tab}

-- Word k is start + y * stride + x for some x below w and y below h.
abbrev pub inside : ℕ → ℕ → ℕ → ℕ → ℕ → Bool
inside start stride w h k = leb start k && ltb ((k - start) % stride) w && ltb ((k - start) / stride) h

-- The words `old` with f x y laid at start + y * stride + x, for x below w and y below h; every other word stays.
unfoldable pub painted : (start stride w h : ℕ) → (ℕ → ℕ → ℕ) → List ℕ → List ℕ
painted start stride w h f old =
    tab (λ k. cond (inside start stride w h k) (f ((k - start) % stride) ((k - start) / stride)) (get_or old k 0)) (length old)
