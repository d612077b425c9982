-- Which programs that ask a desk read the input.
use Rattle.std.specs.Prelude.{◌≡◌}
use Rattle.canary_base.specs.Writes.{Known}
use Rattle.canary_cli_words.specs.declared.words.ClientCall.{ClientCall}
use Rattle.canary_cli_words.specs.declared.words.ClientCall.TheVariants.{Do, Get, Watch, Send, Due, Agent}

-- `send` and `agent` alone may
abbrev pub IsAsked : Known → Known → ClientCall → Type 0
IsAsked r new_r (Do call) = new_r ≡ r
IsAsked r new_r (Get desk service part) = new_r ≡ r
IsAsked r new_r (Watch desk until json forever service) = new_r ≡ r
IsAsked r new_r (Send desk csv) = Unit {0}
IsAsked r new_r (Due desk wait late services) = new_r ≡ r
IsAsked r new_r (Agent call) = Unit {0}
