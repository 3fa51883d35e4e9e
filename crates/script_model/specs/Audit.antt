-- What is shown of an audit.
use Rattle.std.specs.Prelude.{ℕ, ◌-◌, ◌≤◌, List, [], ◌++◌, length, codes, decimal, get_or}
use Rattle.std.specs.declared.option.Option.{Option}
use Rattle.std.specs.declared.option.Option.TheVariants.{None, Some}
use Rattle.lift_base.specs.declared.TheConstants.{SOURCES}
use Rattle.chain_table.specs.Names.{source_names}
use Rattle.core_model.specs.Settling.{Settled}
use Rattle.script_model.specs.Report.{changes_of, totals_text}
use Rattle.script_model.specs.declared.audits.Audit.{Audit}
use Rattle.script_model.specs.declared.audits.Wrong.{Wrong}

-- its number is one of a source
pub record IsOfSource (wrong : Wrong) : Type 0 where
  pub from : 1 ≤ wrong.source
  pub to : wrong.source ≤ SOURCES

-- whether each pair told the truth, and else the tick and the source of the first that did not
abbrev pub genuine_text : Option Wrong → List ℕ
genuine_text None = codes "genuine yes\n"
genuine_text (Some wrong) = codes "genuine no " ++ decimal wrong.tick ++ codes " " ++ get_or source_names
    (wrong.source - 1) [] ++ codes "\n"

-- how old the oldest value behind power was
abbrev pub oldest_text : Option ℕ → List ℕ
oldest_text None = codes "oldest none\n"
oldest_text (Some age) = codes "oldest " ++ decimal age ++ codes "\n"

-- how many ticks had power and no healthy side
abbrev pub unhealthy_text : ℕ → List ℕ
unhealthy_text ticks = codes "unhealthy " ++ decimal ticks ++ codes "\n"

-- four lines, of which the last is the report's
unfoldable pub audit_text : Audit → List Settled → List ℕ
audit_text audit path = genuine_text audit.wrong ++ (oldest_text audit.oldest ++ (unhealthy_text audit.unhealthy
    ++ totals_text path (length (changes_of path))))
