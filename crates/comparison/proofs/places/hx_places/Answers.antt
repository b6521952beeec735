-- `hx_places` meets its contract: refusals, and the search on a copy of the locator. Assumes nothing.
use Rattle.general.proofs.Names.{◌≡◌, refl, ap, ◌∙◌, List, ℕ, arith, length, get_or, eq-eqb, le-leb}
use Rattle.comparison.specs.Places.{searched, search_of}
use Rattle.comparison.proofs.Horner.{all_copied, values_copied}
use Rattle.comparison.proofs.places.hx_places.Goals as goal
use Rattle.comparison.proofs.places.hx_places.Goals.{After-copy}

-- the copy is the locator
copy_is : (c : After-copy) → c.copy.new.dst ≡ c.args.f.now
copy_is c = all_copied _ _ _ 256 c.if-f-ne256.false refl c.copy.ensures

pub search_often-requires : goal.search_often-requires
search_often-requires c = let same = copy_is (goal.at.search_often-requires c).After-copy in record {
  field = c.han_xin-field.ensures.0;
  l_bound = (
    omega arith,
    ap length same ∙ c.if-f-ne256.false,
    λ i. omega (arith, c.type_inv.f i, ap (λ (z : List ℕ). get_or z i 0) same),
    omega arith,
    refl,
  );
}

pub returns : goal.returns
unfolding search_of
returns c =
    simp (eq-eqb _ _ c.if-f-ne256.false, le-leb _ _ c.if-l-gt255.false, le-leb _ _ c.if-e-gt256.false)
    (ap (searched 0) (values_copied _ _ _ _ _ _ _ _ c.han_xin-field.ensures.1 (copy_is (goal.at.returns c).After-copy) c.search_often.ensures
    c.copy-2.ensures))
