-- What the contracts of inner functions say: a run of characters word by word. Nobody has to believe anything here.
use Rattle.std.specs.Prelude.{◌≡◌, Bool, false, cond, not, List, ◌∷◌, ℕ, ◌+◌, ◌*◌, ◌≤◌, ◌<◌, eqb, length, drop}
use Rattle.script.specs.declared.Character.{Character}
use Rattle.script.specs.declared.Character.TheVariants.{Same, Other, Lacking}
use Rattle.script.specs.declared.Cost.{Cost}
use Rattle.script.specs.declared.Cost.TheVariants.{Takes, NotInMode}
use Rattle.script.specs.Writer.{all_pairs, code_of, in_subset, in_text, pair_code, in_region, in_regions, double_code, in_double, text_words}
use Rattle.script.specs.Writer.{region_words, double_words, mode_has}
use Rattle.script.specs.Lengths.{mode_length}
use Rattle.general.specs.Lists.{all}

-- the modes 2, 4, 5 and 6: words of one width, one for each byte or pair, a switch before some, and an end
unfoldable pub words_of : ℕ → Bool → List ℕ → List ℕ
words_of mode f bs = cond (eqb mode 2) (text_words f bs) (cond (eqb mode 6) (double_words bs) (region_words f bs))

unfoldable pub has_all : ℕ → List ℕ → Bool
has_all mode bs = cond (eqb mode 2) (all in_text bs) (cond (eqb mode 6) (all_pairs in_double bs) (all_pairs in_regions bs))

-- how many bytes a character has, how many bits a word, and the words for a switch and the end
unfoldable pub step_of : ℕ → ℕ
step_of mode = cond (eqb mode 2) 1 2

unfoldable pub width_of : ℕ → ℕ
width_of mode = cond (eqb mode 2) 6 (cond (eqb mode 6) 15 12)

unfoldable pub switch_of : ℕ → ℕ
switch_of mode = cond (eqb mode 2) 62 4094

unfoldable pub end_of : ℕ → ℕ
end_of mode = cond (eqb mode 2) 63 (cond (eqb mode 6) 32767 4095)

-- a character's word in the present subset or region, or in the other one
unfoldable pub text_character : Bool → ℕ → Character
text_character f b = cond (in_subset f b) (Same (code_of f b)) (cond (in_subset (not f) b) (Other (code_of (not f) b)) Lacking)

unfoldable pub region_character : Bool → ℕ → ℕ → Character
region_character f a b = cond (in_region f a b) (Same (pair_code f a b)) (cond (in_region (not f) a b) (Other (pair_code (not f) a b)) Lacking)

unfoldable pub double_character : ℕ → ℕ → Character
double_character a b = cond (in_double a b) (Same (double_code a b)) Lacking

-- what the first character of a run says of its words
abbrev pub CharacterIs : ℕ → Bool → List ℕ → Character → Type 0
CharacterIs mode f bs (Same w) = (words_of mode f bs ≡ w ∷ words_of mode f (drop (step_of mode) bs))
    × (has_all mode bs ≡ has_all mode (drop (step_of mode) bs)) × (step_of mode ≤ length bs)
CharacterIs mode f bs (Other w) = (words_of mode f bs ≡ switch_of mode ∷ w ∷ words_of mode (not f) (drop (step_of mode) bs))
    × (has_all mode bs ≡ has_all mode (drop (step_of mode) bs)) × (step_of mode ≤ length bs)
CharacterIs mode f bs Lacking = has_all mode bs ≡ false

-- the subset or region in which a run begins
unfoldable pub begins_in : ℕ → Bool
begins_in mode = not (eqb mode 5)

-- the bits of a run in modes 2, 4, 5 and 6
abbrev pub char_cost : ℕ → List ℕ → Cost
char_cost mode bs = cond (has_all mode bs) (Takes (4 + width_of mode * length (words_of mode (begins_in mode) bs))) NotInMode

-- the bits of a run, or that its mode lacks some of it
abbrev pub cost_of : ℕ → List ℕ → Cost
cost_of mode bs = cond (mode_has mode bs) (Takes (mode_length mode bs)) NotInMode

-- no run has many bits
abbrev pub Limited : Cost → Type 0
Limited (Takes b) = b < 100000000
Limited NotInMode = Unit {0}
