-- What the text of a head comes to.
use Rattle.std.proofs.Common.{◌≡◌, ◌≢◌, IfErr, List, ℕ, refl, sym, ap, inl, inr}
use Rattle.std.proofs.lemmas.Bool.{cases_Bool}
use Rattle.std.proofs.lemmas.Str.{IsUtf8-from_is_utf8, is_utf8-from_IsUtf8}
use Rattle.std.specs.Result.{result_err}
use Rattle.std.specs.Str.{IsUtf8, is_utf8}
use Rattle.std.specs.declared.option.Option.TheVariants.{Some, None}
use Rattle.std.specs.declared.result.Result.TheVariants.{Ok, Err}
use Rattle.toml.specs.Data.{Members}
use Rattle.toml.specs.Parse.{parse_document}
use Rattle.lift_model.specs.Records.{Settings}
use Rattle.lift_config.specs.Head.{Read, config_of, read_head}
use Rattle.lift_config.specs.declared.ConfigFault.TheVariants.{NotToml, NoMemory}

pub table_read : (head : List ℕ) (m : Members) (r : Read Settings) → IsUtf8 head → parse_document head ≡ Some m → r ≡ config_of m
    → r ≡ read_head head
unfolding read_head
table_read head m r text is same = rw (is_utf8-from_IsUtf8 head text, is) same

pub no_table : (head : List ℕ) → (IsUtf8 head → parse_document head ≡ None) → Err NotToml ≡ read_head head
unfolding read_head
no_table head refused = elim (cases_Bool (is_utf8 head)) [
  | inl text ↦ rw (text, refused (IsUtf8-from_is_utf8 head text)) refl
  | inr none ↦ rw none refl
]

pub fault_told : (r m : Read Settings) → r ≡ m → IfErr r (λ e. e ≢ NoMemory → result_err m ≡ Some e)
fault_told (Ok c) m is = tt
fault_told (Err e) m is = λ _. ap result_err (sym is)
