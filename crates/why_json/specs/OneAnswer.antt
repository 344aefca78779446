-- A network and its policy have one answer to each question, so two runs on one description write the same text.
use Rattle.std.specs.Prelude.{◌≡◌, ℕ, List}
use Rattle.flow_set.specs.declared.flow.Flow.{Flow}
use Rattle.net_core.specs.Network.{Network}
use Rattle.net_core.specs.Policies.{Policy}
use Rattle.why_json.specs.Explanations.{IsExplanation}
use Rattle.why_json.specs.WhyJson.{why_json}
use Rattle.why_json.specs.NetworkText.{IsNetworkText}
use Rattle.why_json.specs.declared.explanation.Explanation.{Explanation}

-- Every explanation of the flow f is written as this text.
abbrev pub IsOnlyWhyText : Network → Policy → Flow → (text : List ℕ) → Type 0
IsOnlyWhyText d policy f text = (x : Explanation) → IsExplanation d policy f x → why_json d x ≡ text

-- Every answer of `network` is this text.
abbrev pub IsOnlyNetworkText : Network → Policy → (text : List ℕ) → Type 0
IsOnlyNetworkText d policy text = (other : List ℕ) → IsNetworkText d policy other → other ≡ text
