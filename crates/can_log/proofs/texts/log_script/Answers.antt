use Rattle.std.proofs.Common.{ℕ, ◌≡◌, ◌≤◌, ◌∙◌, List, sym, ap, subst, arith}
use Rattle.lift_model.specs.Records.{Settings}
use Rattle.lift_base.specs.declared.forms.Form.TheVariants.{Replay}
use Rattle.script_model.specs.Meaning.{MeansScript}
use Rattle.can_log.specs.declared.log.Taking.{Taking}
use Rattle.can_log.specs.Heads.{settings_of, most_of}
use Rattle.can_log.specs.Scripts.{script_of}
use Rattle.can_log.specs.RunsText.{log_text}
use Rattle.can_log.specs.Rows.{HasRanges}
use Rattle.can_log.proofs.InRange.{read_back}
use Rattle.can_log.proofs.Ranges.{log_is_ranged}
use Rattle.can_log.proofs.texts.log_script.Goals as goal

pub settings-config-requires : goal.settings-config-requires
settings-config-requires c =
    let ranged = log_is_ranged c.taking.result c.args.bytes.now c.in_ok-log.log c.in_ok-log.ensures in
    let most : c.taking.result.most ≡ most_of c.args.head.now = ap (λ (t : Taking). t.most) c.taking.ensures in
    omega (arith, ranged.most, most, c.ticks.ensures)

pub returns-clause-read : goal.returns-clause-read
returns-clause-read c = λ places.
    let log = c.in_ok-log.log in
    let rows = c.args.rows.now in
    let config : Settings = c.settings-config.result in
    let ranged = log_is_ranged c.taking.result c.args.bytes.now log c.in_ok-log.ensures in
    let room : log.ticks ≤ config.ticks = omega (arith, c.settings-config.ensures.room, c.ticks.ensures) in
    let ranges : HasRanges config log rows =
    record { config_is = c.known.ensures; room = room; few = ranged.few; frames = ranged.frames; words = c.known_rows.ensures } in
    let settings : config ≡ settings_of c.args.head.now log.ticks =
    c.settings-config.ensures.value ∙ ap (settings_of c.args.head.now) c.ticks.ensures in
    let text : c.in-Ok-text_of.text.items ≡ log_text (script_of config log rows) =
    c.in-Ok-text_of.ensures ∙ ap log_text c.in-Ok.ensures in
    let back = subst (λ (t : List ℕ). MeansScript Replay places t (script_of config log rows)) (sym text)
    (read_back places config log rows ranges) in
    subst (λ (s : Settings). MeansScript Replay places c.in-Ok-text_of.text.items (script_of s log rows)) settings back
