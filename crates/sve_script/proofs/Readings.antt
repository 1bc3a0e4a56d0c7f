-- Any bytes are a session, JSON of another form, a session beyond a limit, or no JSON.
use Rattle.std.proofs.Common.{◌≡◌, ℕ, List, Bool, true, false, Option, Some, None, Ok, Err, IsUtf8, inl, inr, refl, sym, ◌∙◌, true≢false}
use Rattle.std.specs.Str.{is_utf8}
use Rattle.std.proofs.lemmas.Str.{IsUtf8-from_is_utf8, is_utf8-from_IsUtf8}
use Rattle.serde_json.specs.Data.{Data}
use Rattle.serde_json.specs.Read.{read}
use Rattle.sve_shape.specs.Shapes.{Shaped}
use Rattle.sve_script.specs.declared.limits.Beyond.{Beyond}
use Rattle.sve_script.specs.declared.parts.Parts.{Parts}
use Rattle.sve_script.specs.Limits.{limit_of}
use Rattle.sve_script.specs.Session.{IsJson, parts_of, within, session_from, session_of}
use Rattle.sve_script.specs.OneReading.{IsReadSomehow}

parts_are_read : (bytes : List ℕ) (value : Data) → IsJson bytes value → (parts : Parts) (limit : Option Beyond) → session_of value ≡ within parts limit → IsReadSomehow bytes
parts_are_read bytes value is_json parts None is = inl (_, (value, is_json, is))
parts_are_read bytes value is_json parts (Some beyond) is = inr (inr (inl (beyond.which, beyond.number, (value, is_json, is))))

value_is_read : (bytes : List ℕ) (value : Data) → IsJson bytes value → (shaped : Shaped Parts) → session_of value ≡ session_from shaped → IsReadSomehow bytes
value_is_read bytes value is_json (Err path) is = inr (inl (path, (value, is_json, is)))
value_is_read bytes value is_json (Ok parts) is = parts_are_read bytes value is_json parts (limit_of parts.files parts.clients) is

text_is_read : (bytes : List ℕ) → IsUtf8 bytes → (found : Option Data) → read bytes ≡ found → IsReadSomehow bytes
text_is_read bytes is_text (Some value) is_found = value_is_read bytes value (is_text, is_found) (parts_of value) refl
text_is_read bytes is_text None is_found = inr (inr (inr (λ value is_json. let no : None ≡ Some value = sym is_found ∙ is_json.1 in cc)))

is_read : (bytes : List ℕ) (is_text : Bool) → is_utf8 bytes ≡ is_text → IsReadSomehow bytes
is_read bytes true valid = text_is_read bytes (IsUtf8-from_is_utf8 bytes valid) (read bytes) refl
is_read bytes false invalid = inr (inr (inr (λ value is_json. true≢false (sym (is_utf8-from_IsUtf8 bytes is_json.0) ∙ invalid))))

pub read_somehow : (bytes : List ℕ) → IsReadSomehow bytes
read_somehow bytes = is_read bytes (is_utf8 bytes) refl
