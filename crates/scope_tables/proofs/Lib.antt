mod Scopes
