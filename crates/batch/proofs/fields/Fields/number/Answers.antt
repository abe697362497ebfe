use Rattle.std.proofs.Common.{rules, arith, ◌≡◌, ◌∙◌, ◌+◌, ◌-◌, ◌*◌, ◌<◌, true, get_or}
use Rattle.std.specs.Char.{is_ascii_digit}
use Rattle.batch.proofs.Digits.{behind_digit, made_digit}
use Rattle.batch.proofs.fields.Fields.number.Goals as goal

pub loop-ahead-preserved : goal.loop-ahead-preserved
loop-ahead-preserved c =
    let l = c.loop-ahead.ahead.now in
    let some = c.in-len1-up.len_at_least in
    let digit : is_ascii_digit (get_or l 0 0) ≡ true = search rules in
    let value : c.min-value.result < 4294967296 → c.min-value.result ≡ 10 * c.loop-ahead.value + (get_or l 0 0 - 48) = λ small. omega (arith, small, c.min-value.ensures, c.from.ensures) in (
      behind_digit l some digit ∙ c.loop-ahead.invariant.0,
      omega (arith, c.min-value.ensures),
      λ small.
          let e = value small in
          rw e (made_digit c.loop-ahead.value l some digit ∙ c.loop-ahead.invariant.2 (omega (arith, small, e))),
    )
