-- The names that the bytes of a file of entities spell.
use Rattle.std.proofs.Common.{◌≡◌, ◌&&◌, ◌∙◌, ℕ, Bool, true, false, true≢false, List, [], ◌∷◌, Some, None, String, map, refl, sym, ap, subst}
use Rattle.std.specs.Prelude.{IsUtf8, option_and_then}
use Rattle.std.specs.List.{list_all}
use Rattle.std.specs.Option.{option_map_or}
use Rattle.std.specs.declared.alloc.Global.{Global}
use Rattle.serde_json.specs.Data.{Data, null, boolean, number, string, array, object, Members}
use Rattle.serde_json.specs.Find.{as_object, as_str, get}
use Rattle.serde_json.specs.Read.{read}
use Rattle.serde_json.specs.View.{members_view, view}
use Rattle.serde_json.specs.declared.value.Value.{Value}
use Rattle.program_settings.specs.Entities.{Spells, are_texts, entity_of, holds_texts, is_text, or_basic}

abbrev pub all_texts : List Value → Bool
all_texts = list_all (λ value. is_text (view value))

-- the members are texts where their values are
pub texts_by_values : (members : List (String Global × Value)) → are_texts (members_view members) ≡ all_texts (map (λ m. m.1) members)
texts_by_values [] = refl
texts_by_values (m ∷ rest) = ap (λ b. is_text (view m.1) && b) (texts_by_values rest)

-- an object holds texts only, if all its values are texts
pub texts_of : (file : Data) (members : List (String Global × Value)) → Some (members_view members) ≡ as_object file → holds_texts file ≡ all_texts (map (λ m. m.1) members)
texts_of file members is = ap (λ o. option_map_or are_texts o false) (sym is) ∙ texts_by_values members

-- a text that is read as an object of texts spells the names of the object, and the look-up is the one of these names
pub spelled : (bytes text : List ℕ) (file : Data) → text ≡ bytes → IsUtf8 bytes → read text ≡ Some file → holds_texts file ≡ true
    → (names : Members) × Spells bytes names × ((name : List ℕ) → or_basic (option_and_then as_str (get name file)) name ≡ entity_of names name)
spelled bytes text null same utf8 reads all = absurd (true≢false (sym all))
spelled bytes text (boolean b) same utf8 reads all = absurd (true≢false (sym all))
spelled bytes text (number n) same utf8 reads all = absurd (true≢false (sym all))
spelled bytes text (string s) same utf8 reads all = absurd (true≢false (sym all))
spelled bytes text (array items) same utf8 reads all = absurd (true≢false (sym all))
spelled bytes text (object names) same utf8 reads all =
    (names, record { utf8 = utf8; is_object = subst (λ b. read b ≡ Some (object names)) same reads; texts = all }, λ name. refl)

-- a text that cannot be read spells no names
pub unread : (bytes text : List ℕ) → text ≡ bytes → read text ≡ None → (names : Members) → ¬ (Spells bytes names)
unread bytes text same none names s =
    let bad : None ≡ Some (object names) = sym none ∙ ap read same ∙ s.is_object in
    cc
