-- What inner functions say of each other: a number as four bytes. Nobody has to believe anything here.
use Rattle.std.specs.Prelude.{List, [], ◌∷◌, ℕ, ◌/◌, ◌%◌, ◌^◌}

unfoldable pub four_of : ℕ → List ℕ
four_of x = x / 2 ^ 24 ∷ (x / 2 ^ 16) % 256 ∷ (x / 2 ^ 8) % 256 ∷ x % 256 ∷ []
