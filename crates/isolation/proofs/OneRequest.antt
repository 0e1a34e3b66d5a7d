-- The isolation rule of one request, in the parts of which Theorem is made.
pub mod Lists
pub mod Views
pub mod UpperInWords
pub mod Edits
pub mod Ending
pub mod Keep
pub mod Respect
pub mod Agree
pub mod Rule
pub mod SameRequests

-- one proof for each rule: `of-login and of-logout and .. and tt`
infixr 5 ◌and◌
abbrev pub ◌and◌ : {A B : Type 0} → A → B → A × B
a and b = (a, b)
