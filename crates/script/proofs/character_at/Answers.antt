-- `character_at` meets its contract. Assumes nothing.
use Rattle.script.specs.declared.Character.TheVariants.{Lacking}
use Rattle.general.proofs.Names.{ap, ap₂, ◌∙◌, arith}
use Rattle.script.specs.Characters.{text_character, region_character, double_character}
use Rattle.script.proofs.Runs.{text_character_lem, alone_character, double_character_lem, region_character_lem}
use Rattle.script.proofs.character_at.Goals as goal

pub returns-then-mode-eq-TEXT : goal.returns-then-mode-eq-TEXT
returns-then-mode-eq-TEXT c =
    text_character_lem _ _ _ c.args.j (omega arith) _ c.if-mode-eq-TEXT.true
    (c.text_character.ensures ∙ ap (text_character _) c.as_usize.ensures.0)

pub returns-then-run-j-lt2 : goal.returns-then-run-j-lt2
returns-then-run-j-lt2 c = alone_character _ _ c.args.first c.args.j (omega arith) Lacking c.if-mode-eq-TEXT.false c.if-run-j-lt2.true

pub returns-then-mode-eq-TWO_BYTE : goal.returns-then-mode-eq-TWO_BYTE
returns-then-mode-eq-TWO_BYTE c =
    double_character_lem _ _ c.args.first c.args.j (omega arith) _ (omega arith) c.if-mode-eq-TWO_BYTE.true
    (c.double_character.ensures ∙ ap₂ double_character c.as_usize-then-mode-eq-TWO_BYTE.ensures.0 c.as_usize-then-mode-eq-TWO_BYTE-2.ensures.0)

pub returns : goal.returns
returns c =
    region_character_lem _ _ _ c.args.j (omega arith) _ (omega arith)
    c.if-mode-eq-TEXT.false c.if-mode-eq-TWO_BYTE.false
    (c.region_character.ensures ∙ ap₂ (region_character _) c.as_usize-2.ensures.0 c.as_usize-3.ensures.0)
